-- `counts::put` meets its contract. Assumes nothing.
use mathlib.Core.List.{map}
use lib.IntN.{pos}
use Rattle.counts.specs.Moved.{Filling}
use Rattle.counts.proofs.put.Given as goal

abbrev pub invariant-loop-e : goal.invariant-loop-e
invariant-loop-e l = Filling (map pos l.after) l.counts l.e
