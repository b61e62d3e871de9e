-- The names of a set: the numbers that a list holds at the set's members. Assumes nothing.
use Rattle.std.specs.Prelude.{◌≡◌, refl, Bool, true, false, List, [], ◌∷◌, ℕ, zero, suc, ◌/◌, ◌%◌, ◌^◌, ◌≤◌, ◌<◌, ltb, eqb, length, take, get_or}
use Rattle.std.proofs.Common.{sym, ap, ◌∙◌, arith, ltb-true, lt-ltb}
use Rattle.std.proofs.Math.Bool.{and-eq-true_iff}
use Rattle.std.proofs.Math.Arith.{lt-one}
use Rattle.std.specs.Int.Count.{count_trailing_zeros}
use Rattle.paper.specs.Basics.{all, cons_if}
use Rattle.paper.specs.Table.{chosen}
use Rattle.paper_laws.specs.Words.{half_lt}
use Rattle.sets.specs.Lowest.{cleared, trailing_even, trailing_odd, cleared_even, cleared_odd, lowest_ind}

-- ---- by the lowest member first

pub chosen_none : (l : List ℕ) → chosen 0 l ≡ []
chosen_none [] = refl
chosen_none (x ∷ l) = chosen_none l

abbrev Turned : ℕ → ℕ → Type 0
Turned n w = (l : List ℕ) → length l ≡ n → chosen w l ≡ get_or l (count_trailing_zeros n w) 0 ∷ chosen (cleared w) l

pub chosen_cleared : (n w : ℕ) → w < 2 ^ n → 0 < w → (l : List ℕ) → length l ≡ n → chosen w l ≡ get_or l (count_trailing_zeros n w) 0 ∷ chosen (cleared w) l
chosen_cleared = lowest_ind Turned odd even
  where
    odd : (n w : ℕ) → w / 2 < 2 ^ n → w % 2 ≡ 1 → Turned (suc n) w
    odd n w h e [] g = absurd (omega arith)
    odd n w h e (x ∷ l) g = rw (trailing_odd n w e, (cleared_odd w e).0, (cleared_odd w e).1, e)

    even : (n w : ℕ) → 0 < w → w % 2 ≡ 0 → Turned n (w / 2) → Turned (suc n) w
    even n w p e ih [] g = absurd (omega arith)
    even n w p e ih (x ∷ l) g = rw (trailing_even n w e, (cleared_even w p e).0, (cleared_even w p e).1, e) (ih l (omega arith))

-- a set below 2 ^ n chooses of the first n alone
pub chosen_take : (n w : ℕ) (l : List ℕ) → w < 2 ^ n → chosen w (take n l) ≡ chosen w l
chosen_take zero w l h = rw (lt-one h) (sym (chosen_none l))
chosen_take (suc n) w [] h = refl
chosen_take (suc n) w (x ∷ l) h = ap (cons_if (eqb (w % 2) 1) x) (chosen_take n (w / 2) l (half_lt n h))

-- ---- names below 64

-- each number is below 64
abbrev pub small : List ℕ → Bool
small l = all (λ a. ltb a 64) l

-- .. where the first n names are, and the set is of the first n
pub chosen_small : (n E w : ℕ) (l : List ℕ) → w < 2 ^ n → E ≤ 64 → all (λ a. ltb a E) (take n l) ≡ true → small (chosen w l) ≡ true
chosen_small n E w l h s e = ap small (sym (chosen_take n w l h)) ∙ go w (take n l) e
  where
    go : (w : ℕ) (l : List ℕ) → all (λ a. ltb a E) l ≡ true → small (chosen w l) ≡ true
    go w [] e = refl
    go w (x ∷ l) e =
        let (a, b) = (and-eq-true_iff (ltb x E) (all (λ a. ltb a E) l)).0 e in
        let i : x < E = ltb-true x E a in
        keep (eqb (w % 2) 1) (chosen (w / 2) l) (lt-ltb x 64 (omega arith)) (go (w / 2) l b)
      where
        keep : (b : Bool) (m : List ℕ) → ltb x 64 ≡ true → small m ≡ true → small (cons_if b x m) ≡ true
        keep true m p q = rw p q
        keep false m p q = q
