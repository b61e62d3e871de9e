-- The members of a set, upwards: over the width. Assumes nothing.
use Rattle.std.specs.Prelude.{◌≡◌, refl, Bool, true, false, List, [], ◌∷◌, ℕ, zero, suc, ◌+◌, ◌/◌, ◌%◌, ◌^◌, ◌≤◌, ◌<◌, eqb, ltb, length, get_or}
use Rattle.std.proofs.Common.{ap, ◌∙◌, inl, inr, arith, lt-ltb}
use Rattle.std.proofs.Math.Arith.{lt-one}
use Rattle.std.specs.Int.Count.{ones, ones_step, count_trailing_zeros}
use Rattle.paper.specs.Basics.{all, cons_if, from}
use Rattle.paper.specs.Table.{chosen}
use Rattle.paper_laws.specs.Basics.{length_from}
use Rattle.paper_laws.specs.Words.{digit_cases, half_lt}
use Rattle.sets.specs.Lowest.{cleared, turn}
use Rattle.sets.specs.Chosen.{chosen_none, chosen_cleared}

-- those below n
unfoldable pub members_to : ℕ → ℕ → List ℕ
members_to n w = chosen w (from 0 n)

from_at : (n b k : ℕ) → k < n → get_or (from b n) k 0 ≡ b + k
from_at zero b k h = absurd (omega arith)
from_at (suc n) b zero h = omega arith
from_at (suc n) b (suc k) h = from_at n (suc b) k (omega arith) ∙ omega arith

pub members_none : (n : ℕ) → members_to n 0 ≡ []
unfolding members_to
members_none n = chosen_none (from 0 n)

-- the lowest first
pub members_next : (n w : ℕ) → w < 2 ^ n → (w ≡ 0 → ⊥) → members_to n w ≡ count_trailing_zeros n w ∷ members_to n (cleared w)
unfolding members_to
members_next n w h z =
    let e : get_or (from 0 n) (count_trailing_zeros n w) 0 ≡ count_trailing_zeros n w = from_at n 0 (count_trailing_zeros n w) (turn n w h z).small ∙ omega arith in
    chosen_cleared n w h (omega arith) (from 0 n) (length_from 0 n) ∙ ap (λ k. k ∷ chosen (cleared w) (from 0 n)) e

ones_zero : ones 0 ≡ 0
unfolding ones
ones_zero = refl

chosen_count : (n b w : ℕ) → w < 2 ^ n → ones w ≡ length (chosen w (from b n))
chosen_count zero b w h = ap ones (lt-one h) ∙ ones_zero
chosen_count (suc n) b w h = by (chosen_count n (suc b) (w / 2) (half_lt n h))
  where
    by : ones (w / 2) ≡ length (chosen (w / 2) (from (suc b) n)) → ones w ≡ length (cons_if (eqb (w % 2) 1) b (chosen (w / 2) (from (suc b) n)))
    by ih = elim (digit_cases w) [
      | inl e ↦ rw e (omega (arith, ones_step w))
      | inr e ↦ rw e (omega (arith, ones_step w))
    ]

pub members_count : (n w : ℕ) → w < 2 ^ n → ones w ≡ length (members_to n w)
unfolding members_to
members_count n w h = chosen_count n 0 w h

-- ---- at most n, and each below n

chosen_few : (l : List ℕ) (w : ℕ) → length (chosen w l) ≤ length l
chosen_few [] w = omega arith
chosen_few (x ∷ l) w = by (eqb (w % 2) 1) (chosen_few l (w / 2))
  where
    by : (b : Bool) → length (chosen (w / 2) l) ≤ length l → length (cons_if b x (chosen (w / 2) l)) ≤ suc (length l)
    by true h = omega arith
    by false h = omega arith

pub members_few : (n w : ℕ) → length (members_to n w) ≤ n
unfolding members_to
members_few n w = omega (arith, chosen_few (from 0 n) w, length_from 0 n)

chosen_below : (n b w m : ℕ) → b + n ≤ m → all (λ k. ltb k m) (chosen w (from b n)) ≡ true
chosen_below zero b w m h = refl
chosen_below (suc n) b w m h = by (eqb (w % 2) 1) (chosen_below n (suc b) (w / 2) m (omega arith))
  where
    by : (x : Bool) → all (λ k. ltb k m) (chosen (w / 2) (from (suc b) n)) ≡ true → all (λ k. ltb k m) (cons_if x b (chosen (w / 2) (from (suc b) n))) ≡ true
    by true q = rw (lt-ltb b m (omega arith)) q
    by false q = q

pub members_below : (n w : ℕ) → all (λ k. ltb k n) (members_to n w) ≡ true
unfolding members_to
members_below n w = chosen_below n 0 w n (omega arith)
