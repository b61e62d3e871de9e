-- A list of words with a set put into the words at the members of another. Assumes nothing.
use Rattle.std.specs.Prelude.{◌≡◌, refl, List, [], ◌∷◌, ℕ, zero, suc, ◌/◌, ◌%◌, ◌^◌, ◌<◌, eqb, length, get_or, set}
use Rattle.std.proofs.Common.{sym, ap, ap₂, ◌∙◌, arith, length-set}
use Rattle.std.specs.Int.Bits.{bit_or, or_zero_r}
use Rattle.std.specs.Int.Count.{count_trailing_zeros}
use Rattle.paper.specs.Sets.{bit, when}
use Rattle.paper_laws.specs.Words.{bit_low, bit_half}
use Rattle.sets.specs.Lowest.{cleared, Taken, trailing_even, trailing_odd, cleared_even, cleared_odd, lowest_ind, turn}

-- each word of the list whose place is a member of `from`, with the members of `to` in it
abbrev pub joined : ℕ → ℕ → List ℕ → List ℕ
joined from to [] = []
joined from to (x ∷ l) = bit_or x (when (eqb (from % 2) 1) to) ∷ joined (from / 2) to l

pub length_joined : (from to : ℕ) (l : List ℕ) → length (joined from to l) ≡ length l
length_joined from to [] = refl
length_joined from to (x ∷ l) = ap suc (length_joined (from / 2) to l)

-- what stands at each place
pub joined_at : (from to : ℕ) (l : List ℕ) (k : ℕ) → k < length l → get_or (joined from to l) k 0 ≡ bit_or (get_or l k 0) (when (bit from k) to)
joined_at from to [] k h = absurd (omega arith)
joined_at from to (x ∷ l) zero h = ap (λ b. bit_or x (when b to)) (sym (bit_low from))
joined_at from to (x ∷ l) (suc k) h = joined_at (from / 2) to l k (omega arith) ∙ ap (λ b. bit_or (get_or l k 0) (when b to)) (sym (bit_half from k))

-- ---- the walk

pub joined_none : (to : ℕ) (l : List ℕ) → joined 0 to l ≡ l
joined_none to [] = refl
joined_none to (x ∷ l) = ap₂ (λ y m. y ∷ m) (or_zero_r x) (joined_none to l)

-- the word at one place with the members of `to` in it
abbrev pub joined_one : ℕ → ℕ → List ℕ → List ℕ
joined_one k to l = set l k (bit_or (get_or l k 0) to)

-- the lowest place first, and then the others
abbrev Turned : ℕ → ℕ → Type 0
Turned n w = (to : ℕ) (l : List ℕ) → length l ≡ n → joined (cleared w) to (joined_one (count_trailing_zeros n w) to l) ≡ joined w to l

joined_cleared : (n w : ℕ) → w < 2 ^ n → 0 < w → Turned n w
joined_cleared = lowest_ind Turned odd even
  where
    odd : (n w : ℕ) → w / 2 < 2 ^ n → w % 2 ≡ 1 → Turned (suc n) w
    odd n w h e to [] g = absurd (omega arith)
    odd n w h e to (x ∷ l) g = rw (trailing_odd n w e, (cleared_odd w e).0, (cleared_odd w e).1, e, or_zero_r (bit_or x to))

    even : (n w : ℕ) → 0 < w → w % 2 ≡ 0 → Turned n (w / 2) → Turned (suc n) w
    even n w p e ih to [] g = absurd (omega arith)
    even n w p e ih to (x ∷ l) g = rw (trailing_even n w e, (cleared_even w p e).0, (cleared_even w p e).1, e, ih to l (omega arith))

-- the words as they are, with `rest` still to join, come to what is asked
pub record Joining (goal : List ℕ) (to : ℕ) (follow : List ℕ) (rest : ℕ) : Type 0 where
  pub fits : rest < 2 ^ 64
  pub long : length follow ≡ 64
  pub same : joined rest to follow ≡ goal

pub none_joined : (from to : ℕ) (follow : List ℕ) → from < 2 ^ 64 → length follow ≡ 64 → Joining (joined from to follow) to follow from
none_joined from to follow h l = record { fits = h; long = l; same = refl }

module _ (goal : List ℕ) (to : ℕ) (follow : List ℕ) (rest : ℕ) (j : Joining goal to follow rest) where
  pub all_joined : rest ≡ 0 → follow ≡ goal
  all_joined z = sym (joined_none to follow) ∙ ap (λ w. joined w to follow) (sym z) ∙ j.same

  pub one_joined : {k next : ℕ} {words : List ℕ} → Taken rest k next → words ≡ joined_one k to follow → Joining goal to words next
  one_joined t d =
      let more : rest ≡ 0 → ⊥ = t.some in
      rw (d, t.lowest, t.others) (record {
        fits = (turn 64 rest j.fits more).fits;
        long = length-set follow (count_trailing_zeros 64 rest) (bit_or (get_or follow (count_trailing_zeros 64 rest) 0) to) ∙ j.long;
        same = joined_cleared 64 rest j.fits (omega arith) to follow j.long ∙ j.same;
      })
