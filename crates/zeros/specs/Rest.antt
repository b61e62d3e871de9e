-- What a loop over a list has still to read. Assumes nothing.
use Rattle.std.specs.Prelude.{◌≡◌, Bool, ◌&&◌, List, [], ◌∷◌, ℕ, ◌+◌, ◌≤◌, ◌<◌, length, drop, get_or}
use Rattle.std.proofs.Common.{sym, ap, ◌∙◌, add-one, drop_of_length-le, drop-cons}
use Rattle.std.proofs.Math.Bool.{and_assoc, and-true}
use Rattle.paper.specs.Basics.{all}

-- what f makes of the rest is the goal: so with the next number apart, and at the end with nothing left
module _ {A : Type 0} (f : List ℕ → A) (l : List ℕ) (i : ℕ) {goal : A} (same : f (drop i l) ≡ goal) where
  pub rest_next : i < length l → f (get_or l i 0 ∷ drop (i + 1) l) ≡ goal
  rest_next h = rw (add-one, ← drop-cons l i 0 h) same

  pub rest_none : length l ≤ i → f [] ≡ goal
  rest_none h = ap f (sym (drop_of_length-le l h)) ∙ same

-- ---- the same test of each number

module _ (P : ℕ → Bool) (l : List ℕ) (i : ℕ) (ok : Bool) {goal : Bool} (same : (ok && all P (drop i l)) ≡ goal) where
  pub all_next : i < length l → ((ok && P (get_or l i 0)) && all P (drop (i + 1) l)) ≡ goal
  all_next h = and_assoc ok (P (get_or l i 0)) (all P (drop (i + 1) l)) ∙ rest_next (λ m. ok && all P m) l i same h

  pub all_none : length l ≤ i → ok ≡ goal
  all_none h = sym (and-true ok) ∙ rest_none (λ m. ok && all P m) l i same h
