-- Children of declared names, by their numbers, match a model's expression exactly if the model of the text describes them.
-- Assumes nothing.
use Rattle.std.specs.Prelude.{◌≡◌, refl, ◌↔◌, ◌⊎◌, Bool, true, false, cond, ◌||◌, List, [], ◌∷◌, ◌++◌, map, ℕ, suc}
use Rattle.std.proofs.Common.{sym, subst, ◌∙◌, inl, inr, arith}
use Rattle.std.proofs.Math.Bool.{and-eq-true_iff}
use Rattle.paper.specs.Basics.{all}
use Rattle.paper.specs.Expressions.{Matches}
use Rattle.paper.specs.Dtd.Letters.{Name, same, among}
use Rattle.paper.specs.Dtd.Declarations.{Suffix, once, maybe, many, several, Part, word, sequence, choice, Parts, only, ◌and◌, each, each_of}
use Rattle.paper.specs.Dtd.Numbering.{expr_of, number_in}
use Rattle.paper.specs.Dtd.Meaning.{Children, Rounds, stop, more, followed, repeated, Describes, InOrder, OneOf}
use Rattle.basic_laws.specs.Bools.{clash}
use Rattle.dtd_laws.specs.Kept.{same_true}
use Rattle.dtd_schema_laws.specs.Meant.{part_means}

-- ---- names and numbers

-- names in the list that have one number are one name
one_name : (l : List Name) (n m : Name) → among n l ≡ true → among m l ≡ true → number_in l n ≡ number_in l m → n ≡ m
one_name [] n m p q e = clash p refl
one_name (k ∷ l) n m p q e = by (same n k) (same m k) refl refl p q e (one_name l n m)
  where
    by : (a b : Bool) → same n k ≡ a → same m k ≡ b → (a || among n l) ≡ true → (b || among m l) ≡ true
        → cond a 0 (suc (number_in l n)) ≡ cond b 0 (suc (number_in l m))
        → (among n l ≡ true → among m l ≡ true → number_in l n ≡ number_in l m → n ≡ m) → n ≡ m
    by true true i j p q e h = same_true n k i ∙ sym (same_true m k j)
    by true false i j p q e h = absurd (omega arith)
    by false true i j p q e h = absurd (omega arith)
    by false false i j p q e h = h p q (omega arith)

abbrev pub all_among : List Name → List Name → Bool
all_among l w = all (λ n. among n l) w

same_names : (l u v : List Name) → all_among l u ≡ true → all_among l v ≡ true → map (number_in l) u ≡ map (number_in l) v → u ≡ v
same_names l [] [] p q e = refl
same_names l [] (n ∷ v) p q e = let z : ◌≡◌ {A = ℕ} 0 1 = cc in absurd (omega arith)
same_names l (n ∷ u) [] p q e = let z : ◌≡◌ {A = ℕ} 0 1 = cc in absurd (omega arith)
same_names l (n ∷ u) (m ∷ v) p q e =
    let (a, b) = (and-eq-true_iff (among n l) (all_among l u)).0 p in
    let (c, d) = (and-eq-true_iff (among m l) (all_among l v)).0 q in
    let i : number_in l n ≡ number_in l m = cc in
    let j : map (number_in l) u ≡ map (number_in l) v = cc in
    let x = one_name l n m a c i in
    let y = same_names l u v b d j in
    cc

-- ---- what a model describes is made of its names

module _ (P : Name → Bool) where
  abbrev Made : Children → Type 0
  Made L = (w : List Name) → L w → all P w ≡ true

  all_both : (u v : List Name) → all P u ≡ true → all P v ≡ true → all P (u ++ v) ≡ true
  all_both [] v p q = q
  all_both (n ∷ u) v p q = let (a, b) = (and-eq-true_iff (P n) (all P u)).0 p in rw a (all_both u v b q)

  rounds_made : {L : Children} → Made L → Made (Rounds L)
  rounds_made h w stop = refl
  rounds_made h w (more {u = u} {v = v} a b) = all_both u v (h u a) (rounds_made h v b)

  followed_made : {L K : Children} → Made L → Made K → Made (followed L K)
  followed_made h k w (u, v, e, a, b) = rw e (all_both u v (h u a) (k v b))

  either_made : {L K : Children} → Made L → Made K → Made (λ w. L w ⊎ K w)
  either_made h k w (inl a) = h w a
  either_made h k w (inr a) = k w a

  repeated_made : (q : Suffix) {L : Children} → Made L → Made (repeated q L)
  repeated_made once h = h
  repeated_made maybe h = either_made (λ w e. rw e refl) h
  repeated_made many h = rounds_made h
  repeated_made several h = followed_made h (rounds_made h)

  alone_made : (n : Name) → P n ≡ true → all P (n ∷ []) ≡ true
  alone_made n k = rw k

  mutual
    part_made : (p : Part) → each p P ≡ true → Made (Describes p)
    part_made (word n q) k = repeated_made q (λ w e. subst (λ v. all P v ≡ true) (sym e) (alone_made n k))
    part_made (sequence ps q) k = repeated_made q (order_made ps k)
    part_made (choice p ps q) k = let (a, b) = (and-eq-true_iff (each p P) (each_of ps P)).0 k in repeated_made q (either_made (part_made p a) (one_made ps b))

    order_made : (ps : Parts) → each_of ps P ≡ true → Made (InOrder ps)
    order_made (only p) k = part_made p k
    order_made (p and ps) k = let (a, b) = (and-eq-true_iff (each p P) (each_of ps P)).0 k in followed_made (part_made p a) (order_made ps b)

    one_made : (ps : Parts) → each_of ps P ≡ true → Made (OneOf ps)
    one_made (only p) k = part_made p k
    one_made (p and ps) k = let (a, b) = (and-eq-true_iff (each p P) (each_of ps P)).0 k in either_made (part_made p a) (one_made ps b)

-- l: the declared elements, among which the model's names and the children are
pub judged : (l : List Name) (p : Part) (w : List Name) → each p (λ n. among n l) ≡ true → all_among l w ≡ true
    → Matches (expr_of p (number_in l)) (map (number_in l) w) ↔ Describes p w
judged l p w k h = (
  λ m.
      let (v, e, d) = (part_means (number_in l) p (map (number_in l) w)).0 m in
      subst (Describes p) (same_names l v w (part_made (λ n. among n l) p k v d) h e) d,
  λ d. (part_means (number_in l) p (map (number_in l) w)).1 (w, refl, d),
)
