-- What a list of edits keeps from one to the next: the set of IDs, and how many references each value has. Assumes nothing.
use Rattle.std.specs.Prelude.{◌≡◌, refl, ◌↔◌, Bool, true, false, cond, ◌||◌, List, [], ◌∷◌, ◌++◌, ℕ, suc, ◌+◌, ◌≤◌, eqb, ltb, length}
use Rattle.std.proofs.Common.{sym, inl, inr, arith, lt-ltb}
use Rattle.paper.specs.Basics.{elem, distinct}
use Rattle.kept_laws.specs.Lists.{In, in_append, distinct_append}

-- how often v is in the list
abbrev pub times : ℕ → List ℕ → ℕ
times v [] = 0
times v (x ∷ l) = cond (eqb v x) (suc (times v l)) (times v l)

pub times_append : (v : ℕ) (l m : List ℕ) → times v (l ++ m) ≡ times v l + times v m
times_append v [] m = omega arith
times_append v (x ∷ l) m = go (eqb v x) (times_append v l m)
  where
    go : (b : Bool) → times v (l ++ m) ≡ times v l + times v m
        → cond b (suc (times v (l ++ m))) (times v (l ++ m)) ≡ cond b (suc (times v l)) (times v l) + times v m
    go true h = omega arith
    go false h = h

-- .. no more often than there are values
pub times_few : (v : ℕ) (l : List ℕ) → times v l ≤ length l
times_few v [] = omega arith
times_few v (x ∷ l) = go (eqb v x) (times_few v l)
  where
    go : (b : Bool) → times v l ≤ length l → cond b (suc (times v l)) (times v l) ≤ suc (length l)
    go true h = omega arith
    go false h = omega arith

-- a value is in the list exactly if it is there at least once
pub times_elem : (v : ℕ) (l : List ℕ) → elem v l ≡ ltb 0 (times v l)
times_elem v [] = refl
times_elem v (x ∷ l) = go (eqb v x) (times_elem v l)
  where
    go : (b : Bool) → elem v l ≡ ltb 0 (times v l) → b || elem v l ≡ ltb 0 (cond b (suc (times v l)) (times v l))
    go true h = sym (lt-ltb 0 (suc (times v l)) (omega arith))
    go false h = h

-- the count of what stays is that of all, less that of what goes; and the new one has what comes in its place
pub times_stays : (v : ℕ) (b c r : List ℕ) → times v (b ++ (c ++ r)) ≡ times v (b ++ r) + times v c
times_stays v b c r = omega (arith, times_append v b (c ++ r), times_append v c r, times_append v b r)

-- where no value stands twice, those that stay are those that are there and do not go
pub in_stays : (v : ℕ) (b c r : List ℕ) → distinct (b ++ (c ++ r)) ≡ true → In v (b ++ r) ↔ (In v (b ++ (c ++ r)) × (In v c → ⊥))
in_stays v b c r e =
    let (db, s, x) = (distinct_append b (c ++ r)).0 e in
    let (dc, dr, y) = (distinct_append c r).0 s in (
      λ h. elim ((in_append v b r).0 h) [
        | inl z ↦ ((in_append v b (c ++ r)).1 (inl z), λ k. x v z ((in_append v c r).1 (inl k)))
        | inr z ↦ ((in_append v b (c ++ r)).1 (inr ((in_append v c r).1 (inr z))), λ k. y v k z)
      ],
      λ h. elim ((in_append v b (c ++ r)).0 h.0) [
        | inl z ↦ (in_append v b r).1 (inl z)
        | inr z ↦ elim ((in_append v c r).0 z) [ inl w ↦ absurd (h.1 w) | inr w ↦ (in_append v b r).1 (inr w) ]
      ],
    )
