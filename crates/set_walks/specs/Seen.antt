-- Whether a set's names differ, by a walk that keeps the set of the names seen. Assumes nothing.
use Rattle.std.specs.Prelude.{◌≡◌, refl, Bool, true, false, not, ◌&&◌, ◌||◌, List, [], ◌∷◌, ℕ, ◌^◌, ◌<◌, ltb, eqb, length, get_or}
use Rattle.std.proofs.Common.{sym, ap, ap₂, ◌∙◌, arith, ltb-true}
use Rattle.std.proofs.Math.Bool.{and-eq-true_iff}
use Rattle.std.specs.Int.Bits.{bit_or}
use Rattle.paper.specs.Basics.{all, elem, distinct}
use Rattle.paper.specs.Sets.{bit}
use Rattle.paper.specs.Table.{chosen}
use Rattle.paper_laws.specs.Words.{bit_of_or, bit_zero, bit_one}
use Rattle.basic_laws.specs.Numbers.{eqb_sym}
use Rattle.sets.specs.Lowest.{Taken, turn}
use Rattle.sets.specs.Chosen.{small, chosen_none, chosen_cleared}

-- no number of the list is a member of `seen`, and none stands twice
abbrev pub unseen : ℕ → List ℕ → Bool
unseen seen [] = true
unseen seen (a ∷ l) = not (bit seen a) && unseen (bit_or seen (2 ^ a)) l

pub unseen_none : (l : List ℕ) → unseen 0 l ≡ distinct l
unseen_none l = parts 0 l ∙ ap (λ b. b && distinct l) (none l)
  where
    none : (l : List ℕ) → all (λ a. not (bit 0 a)) l ≡ true
    none [] = refl
    none (a ∷ l) = rw (bit_zero a) (none l)

    also : (seen a : ℕ) (l : List ℕ) → all (λ x. not (bit (bit_or seen (2 ^ a)) x)) l ≡ (not (elem a l) && all (λ x. not (bit seen x)) l)
    also seen a [] = refl
    also seen a (x ∷ l) =
        ap₂ (λ b r. not b && r) (bit_of_or seen (2 ^ a) x ∙ ap (λ b. bit seen x || b) (bit_one a x ∙ eqb_sym x a)) (also seen a l)
        ∙ go (bit seen x) (eqb a x) (elem a l) (all (λ x. not (bit seen x)) l)
      where
        go : (s e r t : Bool) → (not (s || e) && (not r && t)) ≡ (not (e || r) && (not s && t))
        go true true r t = refl
        go true false true t = refl
        go true false false t = refl
        go false true r t = refl
        go false false r t = refl

    parts : (seen : ℕ) (l : List ℕ) → unseen seen l ≡ (all (λ a. not (bit seen a)) l && distinct l)
    parts seen [] = refl
    parts seen (a ∷ l) =
        ap (λ r. not (bit seen a) && r) (parts (bit_or seen (2 ^ a)) l ∙ ap (λ b. b && distinct l) (also seen a l))
        ∙ go (bit seen a) (elem a l) (all (λ x. not (bit seen x)) l) (distinct l)
      where
        go : (s e t d : Bool) → (not s && ((not e && t) && d)) ≡ ((not s && t) && (not e && d))
        go true e t d = refl
        go false true true d = refl
        go false true false d = refl
        go false false t d = refl

-- ---- the walk

-- the names of `rest` are below 64, and the answer is whether they are unseen
pub record Seeing (names : List ℕ) (answer : Bool) (rest seen : ℕ) : Type 0 where
  pub fits : rest < 2 ^ 64
  pub low : small (chosen rest names) ≡ true
  pub same : unseen seen (chosen rest names) ≡ answer

pub none_seen : (names : List ℕ) (set : ℕ) → set < 2 ^ 64 → small (chosen set names) ≡ true → Seeing names (distinct (chosen set names)) set 0
none_seen names set h e = record { fits = h; low = e; same = unseen_none (chosen set names) }

module _ (names : List ℕ) (answer : Bool) (rest seen : ℕ) (s : Seeing names answer rest seen) where
  pub all_seen : rest ≡ 0 → true ≡ answer
  all_seen z = rw (z, chosen_none names) at s.same

  module _ (long : length names ≡ 64) {k others : ℕ} (t : Taken rest k others) where
    abbrev name : ℕ
    name = get_or names k 0

    next : chosen rest names ≡ name ∷ chosen others names
    next = let more : rest ≡ 0 → ⊥ = t.some in rw (t.lowest, t.others) (chosen_cleared 64 rest s.fits (omega arith) names long)

    lows : (ltb name 64 ≡ true) × (small (chosen others names) ≡ true)
    lows = (and-eq-true_iff (ltb name 64) (small (chosen others names))).0 (sym (ap small next) ∙ s.low)

    sames : (not (bit seen name) && unseen (bit_or seen (2 ^ name)) (chosen others names)) ≡ answer
    sames = sym (ap (unseen seen) next) ∙ s.same

    pub name_low : name < 64
    name_low = ltb-true name 64 lows.0

    pub seen_twice : {r : Bool} → r ≡ bit seen name → r ≡ true → false ≡ answer
    seen_twice p q = rw (sym p ∙ q) at sames

    pub seen_once : {r : Bool} {also : ℕ} → r ≡ bit seen name → r ≡ false → also ≡ bit_or seen (2 ^ name) → Seeing names answer others also
    seen_once p q e = rw e (record { fits = rw t.others (turn 64 rest s.fits t.some).fits; low = lows.1; same = rw (sym p ∙ q) at sames })
