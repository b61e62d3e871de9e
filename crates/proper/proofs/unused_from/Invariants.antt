-- `unused_from` meets its contract. The loop's invariant is `Unused`. Assumes nothing.
use Rattle.proper.specs.Whole.{Unused}
use Rattle.proper.proofs.unused_from.Given as goal

abbrev pub invariant-loop-e : goal.invariant-loop-e
invariant-loop-e l = Unused l.table l.elements l.e
