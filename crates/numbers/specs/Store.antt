-- A number stored at a place of a list of bytes. Assumes nothing.
use Rattle.std.specs.Prelude.{◌≡◌, refl, Bool, true, false, List, [], ◌∷◌, ℕ, ◌+◌, ◌/◌, ◌%◌, ◌≤◌, ◌<◌, ltb, length, set}
use Rattle.std.proofs.Common.{arith, add-one}
use Rattle.std.proofs.Math.Numerals.{add-two}
use borrow.Author.Tests.{ltb-true, ltb-false, lt-ltb, le-ltb}
use Rattle.std.proofs.lemmas.List.Edits.{sets}
use Rattle.paper.specs.Files.{largest, bytes_of}

-- n has bytes, and there is room for them in s from a place on
pub record Storable (s : List ℕ) (at n : ℕ) : Type 0 where
  pub small : n ≤ largest
  pub room : at + length (bytes_of n) ≤ length s

-- the place after the bytes of n, which stand in s from a place on; every other byte is as before
abbrev pub stored : List ℕ → ℕ → ℕ → ℕ × List ℕ
stored s at n = (at + length (bytes_of n), sets s at (bytes_of n))

-- ---- one, two and three bytes

module _ (n : ℕ) where
  pub bytes_one : n < 128 → bytes_of n ≡ n ∷ []
  unfolding bytes_of
  bytes_one h = rw (lt-ltb n 128 h)

  pub bytes_two : 128 ≤ n → n < 16384 → bytes_of n ≡ (128 + n % 128) ∷ (n / 128) ∷ []
  unfolding bytes_of
  bytes_two h l = rw (le-ltb n 128 h, lt-ltb n 16384 l)

  pub bytes_three : 16384 ≤ n → bytes_of n ≡ (128 + n % 128) ∷ (128 + n / 128 % 128) ∷ (n / 16384) ∷ []
  unfolding bytes_of
  bytes_three h = rw (le-ltb n 128 (omega arith), le-ltb n 16384 h)

  pub one_wide : n < 128 → 1 ≡ length (bytes_of n)
  one_wide h = rw (bytes_one h)

  pub two_wide : 128 ≤ n → n < 16384 → 2 ≡ length (bytes_of n)
  two_wide h l = rw (bytes_two h l)

  pub three_wide : 16384 ≤ n → 3 ≡ length (bytes_of n)
  three_wide h = rw (bytes_three h)

  wide : (1 ≤ length (bytes_of n)) × (length (bytes_of n) ≤ 3)
  wide = go (ltb n 128) (ltb n 16384) refl refl
    where
      go : (a b : Bool) → ltb n 128 ≡ a → ltb n 16384 ≡ b → (1 ≤ length (bytes_of n)) × (length (bytes_of n) ≤ 3)
      go true b p q = omega (arith, one_wide (ltb-true n 128 p))
      go false true p q = omega (arith, two_wide (ltb-false n 128 p) (ltb-true n 16384 q))
      go false false p q = omega (arith, three_wide (ltb-false n 16384 q))

  pub least_wide : 1 ≤ length (bytes_of n)
  least_wide = wide.0

  pub most_wide : length (bytes_of n) ≤ 3
  most_wide = wide.1

  module _ (s : List ℕ) (at : ℕ) where
    pub one_stored : n < 128 → (at + 1, set s at n) ≡ stored s at n
    one_stored h = rw (bytes_one h)

    pub two_stored : 128 ≤ n → n < 16384 → (at + 2, set (set s at (128 + n % 128)) (at + 1) (n / 128)) ≡ stored s at n
    two_stored h l = rw (bytes_two h l, add-one)

    pub three_stored : 16384 ≤ n
        → (at + 3, set (set (set s at (128 + n % 128)) (at + 1) (128 + n / 128 % 128)) (at + 2) (n / 16384)) ≡ stored s at n
    three_stored h = rw (bytes_three h, add-one, add-two)
