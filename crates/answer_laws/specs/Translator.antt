-- When an answer of the translator's reader is a number of the paper. Assumes nothing.
use Rattle.std.specs.Prelude.{[], ◌∷◌, T}
use Rattle.paper.specs.Basics.{elem}
use Rattle.paper.specs.Schema.{Parsed, stop, ok}

module _ {A : Type 0} where
  abbrev pub Stops : Parsed A → Type 0
  Stops (stop k) = T (elem k (1 ∷ 2 ∷ 3 ∷ []))
  Stops (ok a s) = Unit {0}
