-- Words as sets of numbers: k is a member of w where `bit w k` holds. Where a law names a width n, it is of every n, and n - 1, the
-- top member, is like the others. Assumes nothing.
use Rattle.std.specs.Prelude.{◌≡◌, refl, Bool, true, false, ◌&&◌, ◌||◌, ◌⊎◌, ◌↔◌, ℕ, zero, suc, ◌*◌, ◌/◌, ◌%◌, ◌^◌, ◌≤◌, ◌<◌, eqb, ltb}
use Rattle.std.proofs.Common.{sym, ap, ◌∙◌, inl, inr, lt_of_lt_of_le, lt_of_le_of_lt, zero-lt-suc, mod-lt, mod-eq_of_lt, one-mul, div-lt_iff_lt-mul, div-one, pow-suc, arith, eqb-true, eq-eqb, ltb-true, lt-ltb, pow_pos, pow_mono}
use Rattle.std.proofs.Math.Bool.{and-eq-true_iff}
use Rattle.std.proofs.Math.Nat.{zero-div, div-eq_of_lt, div-div-eq-div-mul, pow-succ'}
use Rattle.std.proofs.Math.Decide.{dec_lt}
use Rattle.std.proofs.Math.Dec.{eqb-zero-suc, eqb-suc-zero, eqb-suc-suc}
use Rattle.std.proofs.Math.Arith.{lt-one, bin_ind}
use Rattle.std.proofs.Math.Pow.{pow-lt}
use Rattle.std.specs.Int.Bits.{bit_and, bit_or, or_zero_l}
use Rattle.std.proofs.lemmas.Nat.{and_shr, or_shr, and_mod, or_mod, and_le_l, and_mask}
use Rattle.paper.specs.Sets.{bit, when}
use Rattle.basic_laws.specs.Bools.{clash, same_test, meet}

-- ---- one digit at a time

two_pos : 0 < 2
two_pos = zero-lt-suc 1

pub digit_cases : (w : ℕ) → (w % 2 ≡ 0) ⊎ (w % 2 ≡ 1)
digit_cases w = go (w % 2) (mod-lt w two_pos)
  where
    go : (x : ℕ) → x < 2 → (x ≡ 0) ⊎ (x ≡ 1)
    go zero h = inl refl
    go (suc zero) h = inr refl
    go (suc (suc x)) h = absurd (omega arith)

-- member 0 is the lowest digit, and the others are those of the half
pub bit_low : (w : ℕ) → bit w 0 ≡ eqb (w % 2) 1
bit_low w = rw div-one

pub bit_half : (w k : ℕ) → bit w (suc k) ≡ bit (w / 2) k
bit_half w k = ap (λ v. eqb (v % 2) 1) (ap (λ n. w / n) (pow-succ' 2 k) ∙ sym (div-div-eq-div-mul w 2 (2 ^ k)))

pub half_lt : (n : ℕ) {w : ℕ} → w < 2 ^ suc n → w / 2 < 2 ^ n
half_lt n h = omega (arith, pow-suc 2 n)

-- ---- `|`, `&`

or_digit : (x y : ℕ) → x < 2 → y < 2 → eqb (bit_or x y) 1 ≡ (eqb x 1 || eqb y 1)
or_digit zero y h l = ap (λ z. eqb z 1) (or_zero_l y)
or_digit (suc zero) zero h l = refl
or_digit (suc zero) (suc zero) h l = refl
or_digit (suc zero) (suc (suc y)) h l = absurd (omega arith)
or_digit (suc (suc x)) y h l = absurd (omega arith)

and_digit : (x y : ℕ) → x < 2 → y < 2 → eqb (bit_and x y) 1 ≡ (eqb x 1 && eqb y 1)
and_digit zero y h l = refl
and_digit (suc zero) zero h l = refl
and_digit (suc zero) (suc zero) h l = refl
and_digit (suc zero) (suc (suc y)) h l = absurd (omega arith)
and_digit (suc (suc x)) y h l = absurd (omega arith)

pub bit_of_or : (v w k : ℕ) → bit (bit_or v w) k ≡ (bit v k || bit w k)
bit_of_or v w k =
    rw (or_shr v w k, or_mod (v / 2 ^ k) (w / 2 ^ k) 1) (or_digit (v / 2 ^ k % 2) (w / 2 ^ k % 2) (mod-lt _ two_pos) (mod-lt _ two_pos))

pub bit_of_and : (v w k : ℕ) → bit (bit_and v w) k ≡ (bit v k && bit w k)
bit_of_and v w k =
    rw (and_shr v w k, and_mod (v / 2 ^ k) (w / 2 ^ k) 1) (and_digit (v / 2 ^ k % 2) (w / 2 ^ k % 2) (mod-lt _ two_pos) (mod-lt _ two_pos))

-- ---- no member, one member

pub bit_zero : (k : ℕ) → bit 0 k ≡ false
bit_zero k = rw zero-div

-- the word with the one member j
pub bit_one : (j k : ℕ) → bit (2 ^ j) k ≡ eqb k j
bit_one zero zero = refl
bit_one zero (suc k) = bit_half (2 ^ 0) k ∙ bit_zero k ∙ sym (eqb-suc-zero k)
bit_one (suc j) zero = let e : 2 ^ suc j % 2 ≡ 0 = omega (arith, pow-suc 2 j) in bit_low (2 ^ suc j) ∙ rw (e, eqb-zero-suc j)
bit_one (suc j) (suc k) =
    let e : 2 ^ suc j / 2 ≡ 2 ^ j = omega (arith, pow-suc 2 j) in
    bit_half (2 ^ suc j) k ∙ ap (λ w. bit w k) e ∙ bit_one j k ∙ sym (eqb-suc-suc k j)

pub bit_when : (c : Bool) (w k : ℕ) → bit (when c w) k ≡ (c && bit w k)
bit_when true w k = refl
bit_when false w k = bit_zero k

-- ---- where members end

-- a word below 2 ^ n has no member from n on
pub bit_past : (n w k : ℕ) → w < 2 ^ n → n ≤ k → bit w k ≡ false
bit_past n w k h l = rw (div-eq_of_lt (lt_of_lt_of_le h (pow_mono l)))

pub bit_below : (n w k : ℕ) → w < 2 ^ n → bit w k ≡ true → k < n
bit_below n w k h m = elim (dec_lt k n) [ yes l ↦ l | no l ↦ clash m (bit_past n w k h (omega arith)) ]

-- ---- words with the same members are equal

digit_same : (a b : ℕ) → eqb (a % 2) 1 ≡ eqb (b % 2) 1 → a % 2 ≡ b % 2
digit_same a b e = elim (digit_cases a) [
  | inl p ↦ elim (digit_cases b) [ inl q ↦ p ∙ sym q | inr q ↦ p ∙ absurd (let z = eqb-true (a % 2) 1 (e ∙ eq-eqb (b % 2) 1 q) in omega arith) ]
  | inr p ↦ p ∙ sym (eqb-true (b % 2) 1 (sym e ∙ eq-eqb (a % 2) 1 p))
]

pub same_bits : (n a b : ℕ) → a < 2 ^ n → b < 2 ^ n → ((k : ℕ) → k < n → bit a k ≡ bit b k) → a ≡ b
same_bits zero a b h l e = lt-one h ∙ sym (lt-one l)
same_bits (suc n) a b h l e =
    let high : a / 2 ≡ b / 2 = same_bits n (a / 2) (b / 2) (half_lt n h) (half_lt n l) (λ k i. sym (bit_half a k) ∙ e (suc k) (omega arith) ∙ bit_half b k) in
    let low : a % 2 ≡ b % 2 = digit_same a b (sym (bit_low a) ∙ e 0 (omega arith) ∙ bit_low b) in
    omega arith

-- a word with no member is 0
pub none_zero : (w : ℕ) → ((k : ℕ) → bit w k ≡ false) → w ≡ 0
none_zero = bin_ind (λ w. ((k : ℕ) → bit w k ≡ false) → w ≡ 0) (λ f. refl)
    (λ w ih f.
    let high : w / 2 ≡ 0 = ih (λ k. sym (bit_half w k) ∙ f (suc k)) in
    let low : w % 2 ≡ 0 = digit_same w 0 (sym (bit_low w) ∙ f 0) in
    omega arith)

-- ---- subsets, `a & b == a`; sets apart, `a & b == 0`

pub within_iff : (n a b : ℕ) → a < 2 ^ n → (bit_and a b ≡ a) ↔ ((k : ℕ) → k < n → bit a k ≡ true → bit b k ≡ true)
within_iff n a b h = (
  λ e k i m. ((and-eq-true_iff (bit a k) (bit b k)).0 (sym (bit_of_and a b k) ∙ ap (λ w. bit w k) e ∙ m)).1,
  λ f. same_bits n (bit_and a b) a (lt_of_le_of_lt (and_le_l a b) h) h (λ k i. bit_of_and a b k ∙ meet (bit a k) (bit b k) (f k i)),
)

pub apart_iff : (n a b : ℕ) → a < 2 ^ n → (bit_and a b ≡ 0) ↔ ((k : ℕ) → k < n → (bit a k && bit b k) ≡ false)
apart_iff n a b h = (
  λ e k i. sym (bit_of_and a b k) ∙ ap (λ w. bit w k) e ∙ bit_zero k,
  λ f. same_bits n (bit_and a b) 0 (lt_of_le_of_lt (and_le_l a b) h) (pow_pos n) (λ k i. bit_of_and a b k ∙ f k i ∙ sym (bit_zero k)),
)

-- ---- `1 << k`, `w >> k & 1`, `w >> n == 0`

pub shift_one : (n k : ℕ) → k < n → (1 * 2 ^ k) % 2 ^ n ≡ 2 ^ k
shift_one n k h = rw one-mul (mod-eq_of_lt (pow-lt h))

pub shift_bit : (w k : ℕ) → eqb (bit_and (w / 2 ^ k) 1) 1 ≡ bit w k
shift_bit w k = rw (and_mask (w / 2 ^ k) 1)

pub shift_below : (w n : ℕ) → eqb (w / 2 ^ n) 0 ≡ ltb w (2 ^ n)
shift_below w n = same_test (eqb (w / 2 ^ n) 0) (ltb w (2 ^ n))
    (λ e.
    let z : w / 2 ^ n < 1 = let y = eqb-true (w / 2 ^ n) 0 e in omega arith in
    lt-ltb w (2 ^ n) (rw one-mul at ((div-lt_iff_lt-mul {k = 2 ^ n} {x = w} {y = 1} (pow_pos n)).0 z)))
    (λ e. eq-eqb (w / 2 ^ n) 0 (div-eq_of_lt (ltb-true w (2 ^ n) e)))
