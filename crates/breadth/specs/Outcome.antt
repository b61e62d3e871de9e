-- What the search answers. Assumes nothing.
use Rattle.std.specs.Prelude.{◌≡◌, Bool, true, false, Option, Some, None, not, ◌&&◌, List, ℕ, ◌≤◌, ◌<◌, get_or}
use Rattle.std.proofs.Common.{sym, ◌∙◌, arith}
use Rattle.paper.specs.Basics.{sequence_places}
use Rattle.paper.specs.Inclusion.{Compared, answered}
use Rattle.inclusion_laws.specs.Search.{searched}
use Rattle.inclusion_laws.specs.Pairs.{pairs, stops}
use Rattle.pairs.specs.Number.{old_at, new_at}
use Rattle.trail.specs.Write.{Spelled, Wrote}
use Rattle.breadth.specs.Going.{Going, Trying}
use Rattle.breadth.specs.Turn.{go_room, go_none, go_found, go_take}

-- the answer with the buffer, as the definition has it
abbrev pub found_of : Option ℕ → List ℕ → Compared
found_of None s = record { number = 0; takes_all = 1; len = 0; buffer = s }
found_of (Some n) s = record { number = 0; takes_all = 0; len = n; buffer = s }

-- ---- the ways out of the search

-- what the test of an entry's pair says
abbrev pub loses_at : (old new : List ℕ) → ℕ → Bool
loses_at old new p = stops old (old_at p) && not (stops new (new_at p))

module _ {old new : List ℕ} {E : ℕ} {seen met from name : List ℕ} {head tail : ℕ} (g : Going old new E seen met from name head tail) where
  -- no pair is left
  pub none_lost : (before now : List ℕ) → tail ≤ head → now ≡ before
      → found_of None now ≡ answered (searched (pairs old new) E sequence_places) before
  none_lost before now h e = rw (go_none g h, e)

  -- the entry at `head` loses what led to it
  module _ {r : Bool} (h : head < tail) (e : r ≡ loses_at old new (get_or met head 0)) (t : r ≡ true) where
    pub lost_spelled : (room : ℕ) → sequence_places ≤ room → Spelled from name head room
    lost_spelled room k =
        let (w, s, l, a) = go_found g h (sym e ∙ t) in
        let b = go_room g in
        record { word = w; spells = s; fits = omega arith; in_from = omega (arith, g.from_long); in_name = omega (arith, g.name_long) }

    module _ {now after : List ℕ} {n : ℕ} (p : Wrote from name head now after n) where
      pub lost_short : n < sequence_places
      lost_short = let (w, s, l, a) = go_found g h (sym e ∙ t) in omega (arith, p.long w s)

      pub one_lost : (before : List ℕ) → now ≡ before
          → found_of (Some n) after ≡ answered (searched (pairs old new) E sequence_places) before
      one_lost before d = let (w, s, l, a) = go_found g h (sym e ∙ t) in rw (a, p.long w s, p.text w s, d)

  -- it does not
  pub not_losing : {r : Bool} → head < tail → r ≡ loses_at old new (get_or met head 0) → r ≡ false → Trying old new E seen met from name head tail (get_or met head 0) 0
  not_losing h e t = go_take g h (sym e ∙ t)
