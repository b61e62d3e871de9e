-- The lowest member of a word: where it stands, the word without it, and how many members there are. A walk takes the lowest member
-- out until none is left. Assumes nothing.
use Rattle.std.specs.Prelude.{◌≡◌, refl, Bool, true, false, not, ◌&&◌, ◌⊎◌, ◌↔◌, Option, Some, None, ℕ, zero, suc, ◌+◌, ◌-◌, ◌/◌, ◌%◌, ◌^◌, ◌≤◌, ◌<◌, eqb}
use Rattle.std.proofs.Common.{sym, ap, ap₂, ◌∙◌, inl, inr, arith, eqb-true, eq-eqb, pow_pos}
use Rattle.std.proofs.Math.Bool.{and-true, and-false, and-eq-true_iff}
use Rattle.std.proofs.Math.Dec.{eqb-suc-zero, eqb-suc-suc}
use Rattle.std.proofs.Math.Arith.{bin_ind}
use Rattle.std.specs.Int.Bits.{bit_and, and_self}
use Rattle.std.proofs.lemmas.Nat.{and_shr, and_mod, and_le_r}
use Rattle.std.specs.Int.Count.{ones, ones_step, count_trailing_zeros, under}
use Rattle.paper.specs.Sets.{bit}
use Rattle.paper_laws.specs.Words.{digit_cases, bit_low, bit_half, half_lt, bit_zero, bit_below, same_bits}
use Rattle.basic_laws.specs.Bools.{clash, fails}

-- the word without its lowest member, as code takes it out
abbrev pub cleared : ℕ → ℕ
cleared w = bit_and w (w - 1)

-- k is the lowest member of w, and v holds the others
pub record Taken (w k v : ℕ) : Type 0 where
  pub some : w ≡ 0 → ⊥
  pub lowest : k ≡ count_trailing_zeros 64 w
  pub others : v ≡ cleared w

-- one turn of a walk: the lowest member is taken, or there is none
abbrev pub Lowest : ℕ → Option ℕ → ℕ → Type 0
Lowest w None v = (w ≡ 0) × (v ≡ 0)
Lowest w (Some k) v = Taken w k v

-- ---- one digit at a time

pub trailing_even : (n w : ℕ) → w % 2 ≡ 0 → count_trailing_zeros (suc n) w ≡ suc (count_trailing_zeros n (w / 2))
unfolding count_trailing_zeros
trailing_even n w e = ap (λ d. under d (count_trailing_zeros n (w / 2))) e

pub trailing_odd : (n w : ℕ) → w % 2 ≡ 1 → count_trailing_zeros (suc n) w ≡ 0
unfolding count_trailing_zeros
trailing_odd n w e = ap (λ d. under d (count_trailing_zeros n (w / 2))) e

pub cleared_even : (w : ℕ) → 0 < w → w % 2 ≡ 0 → (cleared w % 2 ≡ 0) × (cleared w / 2 ≡ cleared (w / 2))
cleared_even w p e =
    let d : (w - 1) / 2 ≡ w / 2 - 1 = omega arith in
    (and_mod w (w - 1) 1 ∙ ap (λ x. bit_and x ((w - 1) % 2)) e, and_shr w (w - 1) 1 ∙ ap (bit_and (w / 2)) d)

pub cleared_odd : (w : ℕ) → w % 2 ≡ 1 → (cleared w % 2 ≡ 0) × (cleared w / 2 ≡ w / 2)
cleared_odd w e =
    let d : (w - 1) / 2 ≡ w / 2 = omega arith in
    let z : (w - 1) % 2 ≡ 0 = omega arith in
    (and_mod w (w - 1) 1 ∙ ap₂ bit_and e z, and_shr w (w - 1) 1 ∙ ap (bit_and (w / 2)) d ∙ and_self (w / 2))

-- What holds of each odd word, and of each even one where it holds of the half, holds of each word that has a member.
pub lowest_ind : (P : ℕ → ℕ → Type 0) → ((n w : ℕ) → w / 2 < 2 ^ n → w % 2 ≡ 1 → P (suc n) w)
    → ((n w : ℕ) → 0 < w → w % 2 ≡ 0 → P n (w / 2) → P (suc n) w) → (n w : ℕ) → w < 2 ^ n → 0 < w → P n w
lowest_ind P odd even zero w h p = absurd (omega arith)
lowest_ind P odd even (suc n) w h p = elim (digit_cases w) [
  | inl e ↦ even n w p e (lowest_ind P odd even n (w / 2) (half_lt n h) (omega arith))
  | inr e ↦ odd n w (half_lt n h) e
]

-- ---- `trailing_zeros` is a member, the lowest

trailing_there : (n w : ℕ) → w < 2 ^ n → 0 < w → bit w (count_trailing_zeros n w) ≡ true
trailing_there = lowest_ind (λ n w. bit w (count_trailing_zeros n w) ≡ true)
    (λ n w h e. rw (trailing_odd n w e) (bit_low w ∙ eq-eqb (w % 2) 1 e))
    (λ n w p e m. rw (trailing_even n w e) (bit_half w (count_trailing_zeros n (w / 2)) ∙ m))

-- ---- `w & (w - 1)` takes it out

bit_cleared : (n w : ℕ) → w < 2 ^ n → 0 < w → (j : ℕ) → bit (cleared w) j ≡ (bit w j && not (eqb j (count_trailing_zeros n w)))
bit_cleared = lowest_ind (λ n w. (j : ℕ) → bit (cleared w) j ≡ (bit w j && not (eqb j (count_trailing_zeros n w))))
    (λ n w h e j. rw (trailing_odd n w e) (odd w e j))
    (λ n w p e ih j. rw (trailing_even n w e) (even n w p e ih j))
  where
    odd : (w : ℕ) → w % 2 ≡ 1 → (j : ℕ) → bit (cleared w) j ≡ (bit w j && not (eqb j 0))
    odd w e zero = bit_low (cleared w) ∙ ap (λ d. eqb d 1) (cleared_odd w e).0 ∙ sym (and-false (bit w 0))
    odd w e (suc j) = bit_half (cleared w) j ∙ ap (λ v. bit v j) (cleared_odd w e).1 ∙ sym (bit_half w j) ∙ rw (eqb-suc-zero j) (sym (and-true (bit w (suc j))))

    even : (n w : ℕ) → 0 < w → w % 2 ≡ 0 → ((j : ℕ) → bit (cleared (w / 2)) j ≡ (bit (w / 2) j && not (eqb j (count_trailing_zeros n (w / 2)))))
        → (j : ℕ) → bit (cleared w) j ≡ (bit w j && not (eqb j (suc (count_trailing_zeros n (w / 2)))))
    even n w p e ih zero = bit_low (cleared w) ∙ ap (λ d. eqb d 1) (cleared_even w p e).0 ∙ ap (λ b. b && not (eqb 0 (suc (count_trailing_zeros n (w / 2))))) (sym (bit_low w ∙ ap (λ d. eqb d 1) e))
    even n w p e ih (suc j) =
        bit_half (cleared w) j ∙ ap (λ v. bit v j) (cleared_even w p e).1 ∙ ih j
        ∙ ap₂ (λ a b. a && not b) (sym (bit_half w j)) (sym (eqb-suc-suc j (count_trailing_zeros n (w / 2))))

-- and leaves less, so that a walk ends
cleared_lt : (w : ℕ) → 0 < w → cleared w < w
cleared_lt w p = omega (arith, and_le_r w (w - 1))

-- ---- one turn of a walk, with `k = trailing_zeros(w)` and `w & (w - 1)` left

pub record Turn (n w : ℕ) : Type 0 where
  pub there : bit w (count_trailing_zeros n w) ≡ true
  pub small : count_trailing_zeros n w < n
  pub less : cleared w < w
  pub fits : cleared w < 2 ^ n
  pub kept : (j : ℕ) → bit (cleared w) j ≡ true → bit w j ≡ true
  pub either : (j : ℕ) → bit w j ≡ true → (j ≡ count_trailing_zeros n w) ⊎ (bit (cleared w) j ≡ true)

pub turn : (n w : ℕ) → w < 2 ^ n → (w ≡ 0 → ⊥) → Turn n w
turn n w h z =
    let p : 0 < w = omega arith in
    let l : cleared w < w = cleared_lt w p in
    record {
      there = trailing_there n w h p;
      small = bit_below n w (count_trailing_zeros n w) h (trailing_there n w h p);
      less = l;
      fits = omega arith;
      kept = λ j m. ((and-eq-true_iff (bit w j) (not (eqb j (count_trailing_zeros n w)))).0 (sym (bit_cleared n w h p j) ∙ m)).0;
      either = λ j m. cases j m (eqb j (count_trailing_zeros n w)) refl p;
    }
  where
    cases : (j : ℕ) → bit w j ≡ true → (b : Bool) → eqb j (count_trailing_zeros n w) ≡ b → 0 < w → (j ≡ count_trailing_zeros n w) ⊎ (bit (cleared w) j ≡ true)
    cases j m true e p = inl (eqb-true j (count_trailing_zeros n w) e)
    cases j m false e p = inr (bit_cleared n w h p j ∙ ap₂ (λ a b. a && not b) m e)

pub taken_below : (w k v : ℕ) → w < 2 ^ 64 → Taken w k v → k < 64
taken_below w k v h t = rw t.lowest (turn 64 w h t.some).small

-- ---- `count_ones`

ones_zero : ones 0 ≡ 0
unfolding ones
ones_zero = refl

ones_none : (w : ℕ) → ones w ≡ 0 → w ≡ 0
ones_none = bin_ind (λ w. ones w ≡ 0 → w ≡ 0) (λ e. refl)
    (λ w ih e. let s : ones w ≡ w % 2 + ones (w / 2) = ones_step w in let h : w / 2 ≡ 0 = ih (omega arith) in omega arith)

-- one more than without the lowest
ones_cleared : (n w : ℕ) → w < 2 ^ n → 0 < w → ones w ≡ suc (ones (cleared w))
ones_cleared = lowest_ind (λ n w. ones w ≡ suc (ones (cleared w)))
    (λ n w h e. let (a, b) = cleared_odd w e in let c : ones (cleared w / 2) ≡ ones (w / 2) = ap ones b in omega (arith, ones_step w, ones_step (cleared w)))
    (λ n w p e ih. let (a, b) = cleared_even w p e in let c : ones (cleared w / 2) ≡ ones (cleared (w / 2)) = ap ones b in omega (arith, ones_step w, ones_step (cleared w)))

-- at most one: any two members are the same
pub single_iff : (n w : ℕ) → w < 2 ^ n → (ones w ≤ 1) ↔ ((j k : ℕ) → bit w j ≡ true → bit w k ≡ true → j ≡ k)
single_iff n zero h = (λ o j k p q. clash p (bit_zero j), λ f. omega (arith, ones_zero))
single_iff n (suc v) h =
    let w : ℕ = suc v in
    let t : Turn n w = turn n w h (λ e. omega arith) in (
      λ o j k p q.
          let z : cleared w ≡ 0 = ones_none (cleared w) (omega (arith, ones_cleared n w h (omega arith))) in
          only t z j p ∙ sym (only t z k q),
      λ f.
          let z : cleared w ≡ 0 = same_bits n (cleared w) 0 t.fits (pow_pos n) (λ k i. gone t f k ∙ sym (bit_zero k)) in
          omega (arith, ones_cleared n w h (omega arith), ap ones z, ones_zero),
    )
  where
    only : Turn n (suc v) → cleared (suc v) ≡ 0 → (i : ℕ) → bit (suc v) i ≡ true → i ≡ count_trailing_zeros n (suc v)
    only t z i m = elim (t.either i m) [ inl e ↦ e | inr e ↦ clash e (ap (λ x. bit x i) z ∙ bit_zero i) ]

    gone : Turn n (suc v) → ((j k : ℕ) → bit (suc v) j ≡ true → bit (suc v) k ≡ true → j ≡ k) → (k : ℕ) → bit (cleared (suc v)) k ≡ false
    gone t f k = fails (bit (cleared (suc v)) k) (λ m. clash m (twice k m))
      where
        twice : (k : ℕ) → bit (cleared (suc v)) k ≡ true → bit (cleared (suc v)) k ≡ false
        twice k m =
            bit_cleared n (suc v) h (omega arith) k
            ∙ rw (t.kept k m, eq-eqb k (count_trailing_zeros n (suc v)) (f k (count_trailing_zeros n (suc v)) (t.kept k m) t.there))
