-- A judgement finds nothing, or gives one of the numbers 7 to 12. Assumes nothing.
use Rattle.std.specs.Prelude.{◌≡◌, refl, ◌⊎◌, Bool, cond, ◌||◌, List, [], ◌∷◌, map, ℕ, zero, suc, ltb, eqb}
use Rattle.std.proofs.Common.{inl, inr, arith, eqb-true}
use Rattle.std.proofs.Math.Bool.{true, false}
use Rattle.std.proofs.Math.Dec.{T}
use Rattle.paper.specs.declared.Tok.{Tok}
use Rattle.paper.specs.declared.Tok.TheVariants.{Start, End, Text, Attr, Value, Bad}
use Rattle.paper.specs.Basics.{elem}
use Rattle.paper.specs.Tokens.{heads, kids}
use Rattle.paper.specs.Rules.{Rules}
use Rattle.paper.specs.Judgement.{Answer, none_found, or_else, before, attributes_good, content_good, element_fault, fault_at, first, place_of, root_fault, ids_of, refs_of, value_in, repeated, dangling, key_fault, judge}

-- one of the list is the first, or one of the others
elem_cons : (n x : ℕ) (l : List ℕ) → T (elem n (x ∷ l)) → (n ≡ x) ⊎ T (elem n l)
elem_cons n x l t = go (eqb n x) refl t
  where
    go : (b : Bool) → eqb n x ≡ b → T (b || elem n l) → (n ≡ x) ⊎ T (elem n l)
    go true e t = inl (eqb-true n x e)
    go false e t = inr t

-- P holds of each in the list
abbrev Each : (ℕ → Type 0) → List ℕ → Type 0
Each P [] = Unit {0}
Each P (x ∷ l) = P x × Each P l

-- what holds of each in the list holds of one of them
pub each : (P : ℕ → Type 0) (l : List ℕ) → Each P l → (n : ℕ) → T (elem n l) → P n
each P [] h n t = absurd t
each P (x ∷ l) (p, h) n t = elim (elem_cons n x l t) [ inl e ↦ rw e p | inr u ↦ each P l h n u ]

-- the numbers that a judgement gives, and those that have a place
abbrev pub placed : List ℕ
placed = 7 ∷ 8 ∷ 9 ∷ 10 ∷ 11 ∷ 12 ∷ []

abbrev pub Judged : Answer → Type 0
Judged a = (a ≡ none_found) ⊎ T (elem a.0 placed)

else_judged : (f i : ℕ) (r : Answer) → T (elem f (0 ∷ placed)) → Judged r → Judged (or_else f i r)
else_judged zero i r t h = h
else_judged (suc f) i r t h = elim (elem_cons (suc f) 0 placed t) [ inl e ↦ absurd (omega arith) | inr u ↦ inr u ]

before_judged : (a r : Answer) → Judged a → Judged r → Judged (before a r)
before_judged a r (inl e) h = rw e h
before_judged a r (inr t) h = else_judged a.0 a.1 r (later a.0 t) h
  where
    later : (n : ℕ) → T (elem n placed) → T (elem n (0 ∷ placed))
    later n t = each (λ n. T (elem n (0 ∷ placed))) placed (tt, (tt, (tt, (tt, (tt, (tt, tt)))))) n t

module _ (R : Rules) where
  element_number : (e : ℕ) (h k : List Tok) → T (elem (element_fault R e h k) (0 ∷ placed))
  unfolding element_fault
  element_number e h k = go (ltb e R.elements) (attributes_good R e h) (content_good R e k)
    where
      go : (a b c : Bool) → T (elem (cond a (cond b (cond c 0 9) 8) 7) (0 ∷ placed))
      go true true true = tt
      go true true false = tt
      go true false c = tt
      go false b c = tt

  fault_number : (d : List Tok) → T (elem (fault_at (element_fault R) d) (0 ∷ placed))
  fault_number [] = tt
  fault_number (Start n ∷ d) = element_number n (heads d) (kids zero d)
  fault_number (End ∷ d) = tt
  fault_number (Text n ∷ d) = tt
  fault_number (Attr n ∷ d) = tt
  fault_number (Value n ∷ d) = tt
  fault_number (Bad ∷ d) = tt

  first_judged : (J : ℕ → Bool) (i : ℕ) (d : List Tok) → Judged (first (element_fault R) (place_of R) J i d)
  first_judged J i [] = inl refl
  first_judged J i (x ∷ d) =
      else_judged (cond (J i) (fault_at (element_fault R) (x ∷ d)) 0) (place_of R (fault_at (element_fault R) (x ∷ d)) i (x ∷ d)) (first (element_fault R) (place_of R) J (suc i) d) (by (J i)) (first_judged J (suc i) d)
    where
      by : (b : Bool) → T (elem (cond b (fault_at (element_fault R) (x ∷ d)) 0) (0 ∷ placed))
      by true = fault_number (x ∷ d)
      by false = tt

  root_judged : (d : List Tok) → Judged (root_fault R d)
  root_judged [] = inl refl
  root_judged (Start n ∷ d) = go (eqb n R.root)
    where
      go : (b : Bool) → Judged (cond b none_found (10, 0))
      go true = inl refl
      go false = inr tt
  root_judged (End ∷ d) = inl refl
  root_judged (Text n ∷ d) = inl refl
  root_judged (Attr n ∷ d) = inl refl
  root_judged (Value n ∷ d) = inl refl
  root_judged (Bad ∷ d) = inl refl

repeated_judged : (seen : List ℕ) (l : List (ℕ × ℕ)) → Judged (repeated seen l)
repeated_judged seen [] = inl refl
repeated_judged seen (p ∷ l) = go (elem p.1 seen) (repeated_judged (p.1 ∷ seen) l)
  where
    go : (b : Bool) → Judged (repeated (p.1 ∷ seen) l) → Judged (cond b (11, p.0) (repeated (p.1 ∷ seen) l))
    go true h = inr tt
    go false h = h

dangling_judged : (ids : List ℕ) (l : List (ℕ × ℕ)) → Judged (dangling ids l)
dangling_judged ids [] = inl refl
dangling_judged ids (p ∷ l) = go (elem p.1 ids) (dangling_judged ids l)
  where
    go : (b : Bool) → Judged (dangling ids l) → Judged (cond b (dangling ids l) (12, p.0))
    go true h = h
    go false h = inr tt

pub judge_judged : (R : Rules) (J : ℕ → Bool) (d : List Tok) → Judged (judge R J d)
unfolding judge
judge_judged R J d =
    before_judged (root_fault R d) (before (first (element_fault R) (place_of R) J 0 d) (key_fault R d)) (root_judged R d)
    (before_judged (first (element_fault R) (place_of R) J 0 d) (key_fault R d) (first_judged R J 0 d)
    (before_judged (repeated [] (ids_of R d)) (dangling (map value_in (ids_of R d)) (refs_of R d)) (repeated_judged [] (ids_of R d))
    (dangling_judged (map value_in (ids_of R d)) (refs_of R d))))
