-- The entries of fixed attributes (item 8): what is read back from a schema's table, the value that an entry gives, and that entries rise.
-- Assumes nothing.
use Rattle.std.specs.Prelude.{◌≡◌, refl, Bool, true, false, cond, ◌&&◌, List, [], ◌∷◌, ◌++◌, map, ℕ, zero, suc, ◌+◌, ◌-◌, ◌*◌, ◌<◌, eqb, length, get_or, replicate}
use Rattle.std.proofs.Common.{ap, ◌∙◌, arith, eq-eqb, ne_eqb}
use Rattle.std.proofs.Math.Option.{Option, none, some}
use Rattle.paper.specs.Basics.{most_fixed, first_with, cons_if, concat, all}
use Rattle.paper.specs.Schema.{Attribute, is_fixed, Element}
use Rattle.paper.specs.Table.{Entry, entry_length, entries_in, entries, entries_of, entries_from, entry_numbers, fixed_numbers}
use Rattle.paper.specs.Rules.{undeclared, fixed_to, fixed_by}
use Rattle.basic_laws.specs.Bools.{both}
use Rattle.paper_laws.specs.Basics.{all_append}

-- ---- what is read back

pub entries_read : (l : List Entry) (z : List ℕ) → entries_in (length l) (concat (map entry_numbers l) ++ z) ≡ l
entries_read [] z = refl
entries_read (x ∷ l) z = ap (λ r. x ∷ r) (entries_read l z)

pub entries_back : (l : List Entry) → entries (fixed_numbers l) ≡ l
entries_back l = entries_read l (replicate (most_fixed * entry_length - length (concat (map entry_numbers l))) 0)

pub length_numbers : (l : List Entry) → length (concat (map entry_numbers l)) ≡ length l * entry_length
length_numbers [] = refl
length_numbers (x ∷ l) = let h = length_numbers l in omega arith

-- ---- the value of an entry

module _ (e a : ℕ) where
  skips : (n : ℕ) → (e ≡ n → ⊥) → (l : List Attribute) (r : List Entry) → fixed_by (entries_of n l ++ r) e a ≡ fixed_by r e a
  skips n d [] r = refl
  skips n d (y ∷ l) r = go (is_fixed y) (skips n d l r)
    where
      go : (b : Bool) → fixed_by (entries_of n l ++ r) e a ≡ fixed_by r e a
          → fixed_by (cons_if b (record { element = n; attribute = y.number; value = y.value }) (entries_of n l) ++ r) e a ≡ fixed_by r e a
      go true h = rw (ne_eqb e n d) h
      go false h = h

  none_later : (n : ℕ) → e < n → (l : List Element) → fixed_by (entries_from n l) e a ≡ none
  none_later n h [] = refl
  none_later n h (x ∷ l) = skips n (λ z. omega arith) x.attributes (entries_from (suc n) l) ∙ none_later (suc n) (omega arith) l

  abbrev Own : List Attribute → Option ℕ
  Own l = first_with (λ y. is_fixed y && eqb a y.number) (λ y. y.value) l

  own : (l : List Attribute) (r : List Entry) → fixed_by r e a ≡ none → fixed_by (entries_of e l ++ r) e a ≡ Own l
  own [] r h = h
  own (y ∷ l) r h = go (is_fixed y) (own l r h)
    where
      go : (b : Bool) → fixed_by (entries_of e l ++ r) e a ≡ Own l
          → fixed_by (cons_if b (record { element = e; attribute = y.number; value = y.value }) (entries_of e l) ++ r) e a
          ≡ cond (b && eqb a y.number) (some y.value) (Own l)
      go true h = rw (eq-eqb e e refl) (ap (λ o. cond (eqb a y.number) (some y.value) o) h)
      go false h = h

-- of the elements from n on: element n + k is the one at place k
fixed_from : (l : List Element) (k n a : ℕ) → fixed_by (entries_from n l) (n + k) a ≡ fixed_to (get_or l k undeclared) a
fixed_from [] k n a = refl
fixed_from (x ∷ l) zero n a =
    let z : n + zero ≡ n = omega arith in
    ap (λ e. fixed_by (entries_from n (x ∷ l)) e a) z ∙ own n a x.attributes (entries_from (suc n) l) (none_later n a (suc n) (omega arith) l)
fixed_from (x ∷ l) (suc k) n a =
    let m : n + suc k ≡ suc n + k = omega arith in
    skips (n + suc k) a n (λ z. omega arith) x.attributes (entries_from (suc n) l)
    ∙ ap (λ e. fixed_by (entries_from (suc n) l) e a) m ∙ fixed_from l k (suc n) a

pub fixed_same : (l : List Element) (e a : ℕ) → fixed_by (entries_from 0 l) e a ≡ fixed_to (get_or l e undeclared) a
fixed_same l e a = let z : e ≡ 0 + e = omega arith in ap (λ k. fixed_by (entries_from 0 l) k a) z ∙ fixed_from l e 0 a

-- ---- what holds of each entry

module _ (Q : Entry → Bool) where
  all_of : (e : ℕ) (l : List Attribute)
      → ((u v : List Attribute) (y : Attribute) → l ≡ u ++ y ∷ v → is_fixed y ≡ true → Q (record { element = e; attribute = y.number; value = y.value }) ≡ true)
      → all Q (entries_of e l) ≡ true
  all_of e [] f = refl
  all_of e (y ∷ l) f = go (is_fixed y) refl (all_of e l (λ u v z q. f (y ∷ u) v z (ap (λ r. y ∷ r) q)))
    where
      go : (b : Bool) → is_fixed y ≡ b → all Q (entries_of e l) ≡ true
          → all Q (cons_if b (record { element = e; attribute = y.number; value = y.value }) (entries_of e l)) ≡ true
      go true p q = both (f [] l y refl p) q
      go false p q = q

  pub all_entries : (e : ℕ) (l : List Element)
      → ((k : ℕ) → k < length l → (u v : List Attribute) (y : Attribute) → (get_or l k undeclared).attributes ≡ u ++ y ∷ v → is_fixed y ≡ true
      → Q (record { element = e + k; attribute = y.number; value = y.value }) ≡ true)
      → all Q (entries_from e l) ≡ true
  all_entries e [] f = refl
  all_entries e (x ∷ l) f =
      all_append Q (entries_of e x.attributes) (entries_from (suc e) l)
      ∙ both
      (all_of e x.attributes (λ u v y q t. let z : e + 0 ≡ e = omega arith in rw z at (f 0 (omega arith) u v y q t)))
      (all_entries (suc e) l (λ k h u v y q t. let z : e + suc k ≡ suc e + k = omega arith in rw z at (f (suc k) (omega arith) u v y q t)))
