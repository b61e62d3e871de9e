-- The test `matches` says what an expression means, of every expression, ambiguous or not. What can still come after the marks
-- of a reading is its rest, and to read a name is to move the marks and to take that name off the rest. Assumes nothing.
use Rattle.std.specs.Prelude.{◌≡◌, ◌⊎◌, ℕ, T}
use mathlib.Core.List.{List, []}
use Rattle.paper.specs.Expressions.{star, Matches}
use Rattle.content_laws.specs.Meaning.{Split}
use Rattle.paper.specs.Matching.{Reading, spot, both, either, maybe, many, some as often, erase}

-- what can still come after a mark
abbrev pub Rest : Reading → List ℕ → Type 0
Rest (spot m a) w = T m × (w ≡ [])
Rest (both r q) w = Split (Rest r) (Matches (erase q)) w ⊎ Rest q w
Rest (either r q) w = Rest r w ⊎ Rest q w
Rest (maybe r) w = Rest r w
Rest (many r) w = Split (Rest r) (Matches (star (erase r))) w
Rest (often r) w = Split (Rest r) (Matches (star (erase r))) w
