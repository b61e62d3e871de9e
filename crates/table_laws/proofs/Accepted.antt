-- All that a schema that was read keeps to. Assumes nothing.
use Rattle.std.specs.Prelude.{◌≡◌, refl, Bool, true, false, cond, ◌||◌, List, [], ◌∷◌, ℕ, zero, suc, ◌+◌, ◌-◌, ◌≤◌, ◌<◌, eqb}
use Rattle.std.proofs.Common.{sym, ap, subst, arith, length-append}
use Rattle.paper.specs.Basics.{most_elements, most_attributes, most_fixed, all}
use Rattle.paper.specs.Schema.{Attribute, fixed_in, Element, Schema, ok, number, content_as, kind_after, most_status, value_after, attributes_from, element, elements_of, schema_of}
use Rattle.paper.specs.Table.{entries_of, entries_from}
use Rattle.table_laws.specs.Readers.{after, number_in, finished_same}
use Rattle.table_laws.specs.Accepted.{content_good_lem, kind_good, status_good, value_good, GoodAttributes, GoodElement, GoodAll, none_left, one_more, length_entries, GoodElements, GoodSchema}

attributes_good_lem : (n low : ℕ) (had : Bool) (met : ℕ) (s : List ℕ) {l : List Attribute} {r : List ℕ} → attributes_from n low had met s ≡ ok l r
    → GoodAttributes low had met l
attributes_good_lem zero low had met s {l} {r} e = let d : l ≡ [] = cc in rw d (record { rising = tt; fixes = tt; few_fixed = λ h. omega arith })
attributes_good_lem (suc n) low had met s {l} {r} e =
    after (number low (most_attributes - 1) s) _ e λ a t p f.
    after (kind_after had t) _ f λ k u g h.
    after (number 0 (most_status k met) u) _ h λ st v i j.
    after (value_after st v) _ j λ x w y z.
    after (attributes_from n (suc a) (had || eqb k 1) (met + cond (eqb st 2) 1 0) w) _ z λ xs o q m.
    let d : l ≡ record { number = a; kind = k; status = st; value = x } ∷ xs = made m in
    let rest = attributes_good_lem n (suc a) (had || eqb k 1) (met + cond (eqb st 2) 1 0) w q in
    let status = (number_in 0 (most_status k met) u i).1 in
    rw d (record {
      rising = ((number_in low (most_attributes - 1) s p).0, kind_good had t g, rest.rising);
      fixes = (λ b. ((status_good k met st status b).0, value_good st v y b), rest.fixes);
      few_fixed = λ b. few (eqb st 2) xs (λ c. (status_good k met st status c).1) b rest.few_fixed;
    })
  where
    made : {a : List Attribute} {w : List ℕ} → ok a w ≡ ok l r → l ≡ a
    made e = cc

    few : (b : Bool) (xs : List Attribute) → (b ≡ true → met < most_fixed) → met ≤ most_fixed
        → (met + cond b 1 0 ≤ most_fixed → met + cond b 1 0 + fixed_in xs ≤ most_fixed) → met + (cond b 1 0 + fixed_in xs) ≤ most_fixed
    few true xs f h g = let k = f refl in let m = g (omega arith) in omega arith
    few false xs f h g = let m = g (omega arith) in omega arith

-- with it, how many fixed attributes there are then
element_good : (E met : ℕ) (s : List ℕ) {x : Element} {r : List ℕ} → element E met s ≡ ok x r
    → GoodElement E x × (met ≤ most_fixed → met + fixed_in x.attributes ≤ most_fixed)
element_good E met s {x} {r} e =
    after (number 0 2 s) _ e λ k t p f.
    after (content_as E k t) _ f λ c u g h.
    after (number 0 most_attributes u) _ h λ n v i j.
    after (attributes_from n 0 false met v) _ j λ l w y z.
    let d : x ≡ record { content = c; attributes = l } = made z in
    let good = attributes_good_lem n 0 false met v y in
    rw d (record { model_good = λ m q. content_good_lem E k t g m q; rising = good.rising; fixes = good.fixes }, good.few_fixed)
  where
    made : {a : Element} {w : List ℕ} → ok a w ≡ ok x r → x ≡ a
    made e = cc

elements_good : (n E met : ℕ) (s : List ℕ) {l : List Element} {r : List ℕ} → elements_of n E met s ≡ ok l r → GoodElements n E met l
elements_good zero E met s {l} {r} e =
    let d : l ≡ [] = cc in rw d (record { each_good = none_left; long = refl; few_entries = λ e h. omega arith })
elements_good (suc n) E met s {l} {r} e =
    after (element E met s) _ e λ x t p f.
    after (elements_of n E (met + fixed_in x.attributes) t) _ f λ xs u g h.
    let d : l ≡ x ∷ xs = made h in
    let (one, few) = element_good E met s p in
    let rest = elements_good n E (met + fixed_in x.attributes) t g in
    rw d (record {
      each_good = one_more one rest.each_good;
      long = ap suc rest.long;
      few_entries = λ e h.
          let k = rest.few_entries (suc e) (few h) in
          omega (arith, length-append (entries_of e x.attributes) (entries_from (suc e) xs), length_entries e x.attributes);
    })
  where
    made : {a : List Element} {w : List ℕ} → ok a w ≡ ok l r → l ≡ a
    made e = cc

pub schema_good : (file : List ℕ) {s : Schema} {r : List ℕ} → schema_of file ≡ ok s r → GoodSchema s
unfolding schema_of
schema_good file {s} {r} e =
    after (number 1 most_elements file) _ e λ E t p f.
    after (number 0 (E - 1) t) _ f λ root u g h.
    after (elements_of E E 0 u) _ h λ l v i j.
    let d : s ≡ record { root = root; elements = l } = finished_same (record { root = root; elements = l }) v j in
    let all = elements_good E E 0 u i in
    let len = all.long in
    let (one, many) = number_in 1 most_elements file p in
    let (low, high) = number_in 0 (E - 1) t g in
    rw d (record {
      some_elements = omega arith;
      few_elements = omega arith;
      root_below = omega arith;
      elements_all = subst (λ n. GoodAll n l) (sym len) all.each_good;
      few_fixed = let few = all.few_entries 0 (omega arith) in omega arith;
    })
