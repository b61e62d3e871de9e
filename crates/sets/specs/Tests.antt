-- The paper's tests of sets, as code computes them, over the width; the paper's `within`, `apart` and `single` are these at 64.
-- Assumes nothing.
use Rattle.std.specs.Prelude.{◌≡◌, Bool, true, not, ◌&&◌, ◌||◌, ℕ, ◌^◌, ◌≤◌, ◌<◌, leb, eqb}
use Rattle.std.proofs.Common.{ap, arith, eqb-true, eq-eqb, leb-true, le-leb}
use Rattle.std.proofs.Math.Decide.{dec_lt}
use Rattle.std.proofs.lemmas.Bool.{not-true}
use Rattle.std.specs.Int.Bits.{bit_and}
use Rattle.std.specs.Int.Count.{ones}
use Rattle.paper.specs.Basics.{every}
use Rattle.paper.specs.Sets.{bit}
use Rattle.paper_laws.specs.Basics.{every_iff}
use Rattle.paper_laws.specs.Words.{bit_below, within_iff, apart_iff}
use Rattle.basic_laws.specs.Bools.{implies, clash, same_test, fails}
use Rattle.sets.specs.Lowest.{single_iff}

module _ (n a b : ℕ) (h : a < 2 ^ n) where
  -- `within`: `a & b == a`
  abbrev Kept : ℕ → Bool
  Kept k = not (bit a k) || bit b k

  pub within_test : eqb (bit_and a b) a ≡ every (λ k. not (bit a k) || bit b k) n
  within_test = same_test (eqb (bit_and a b) a) (every Kept n)
      (λ e. (every_iff Kept n).1 (λ k i. (implies (bit a k) (bit b k)).1 ((within_iff n a b h).0 (eqb-true (bit_and a b) a e) k i)))
      (λ e. eq-eqb (bit_and a b) a ((within_iff n a b h).1 (λ k i. (implies (bit a k) (bit b k)).0 ((every_iff Kept n).0 e k i))))

  -- `apart`: `a & b == 0`
  abbrev Parted : ℕ → Bool
  Parted k = not (bit a k && bit b k)

  pub apart_test : eqb (bit_and a b) 0 ≡ every (λ k. not (bit a k && bit b k)) n
  apart_test = same_test (eqb (bit_and a b) 0) (every Parted n)
      (λ e. (every_iff Parted n).1 (λ k i. ap not ((apart_iff n a b h).0 (eqb-true (bit_and a b) 0 e) k i)))
      (λ e. eq-eqb (bit_and a b) 0 ((apart_iff n a b h).1 (λ k i. not-true (bit a k && bit b k) ((every_iff Parted n).0 e k i))))

-- `single`: `count_ones(a) <= 1`
module _ (n a : ℕ) (h : a < 2 ^ n) where
  abbrev NoneBelow : ℕ → Bool
  NoneBelow k = every (λ j. not (bit a j)) k

  abbrev Lowest : ℕ → Bool
  Lowest k = not (bit a k) || NoneBelow k

  lowest : (k : ℕ) → ((j : ℕ) → bit a j ≡ true → bit a k ≡ true → j ≡ k) → Lowest k ≡ true
  lowest k f = (implies (bit a k) (NoneBelow k)).1 (λ m. (every_iff (λ j. not (bit a j)) k).1 (λ j l. ap not (fails (bit a j) (λ p. let z : j ≡ k = f j p m in omega arith))))

  not_below : (j k : ℕ) → Lowest k ≡ true → bit a j ≡ true → bit a k ≡ true → k ≤ j
  not_below j k e p q = elim (dec_lt j k) [
    | yes l ↦ clash p (not-true (bit a j) ((every_iff (λ j. not (bit a j)) k).0 ((implies (bit a k) (NoneBelow k)).0 e q) j l))
    | no l ↦ omega arith
  ]

  pub single_test : leb (ones a) 1 ≡ every (λ k. not (bit a k) || every (λ j. not (bit a j)) k) n
  single_test = same_test (leb (ones a) 1) (every Lowest n)
      (λ e. (every_iff Lowest n).1 (λ k i. lowest k (λ j p q. (single_iff n a h).0 (leb-true (ones a) 1 e) j k p q)))
      (λ e. le-leb (ones a) 1 ((single_iff n a h).1 (λ j k p q.
      let f = (every_iff Lowest n).0 e in
      let x : k ≤ j = not_below j k (f k (bit_below n a k h q)) p q in
      let y : j ≤ k = not_below k j (f j (bit_below n a j h p)) q p in
      omega arith)))
