-- `proper_blocks` meets its contract. The loop: the blocks below e are proper. Assumes nothing.
use Rattle.proper.specs.Whole.{Passing}
use Rattle.proper.proofs.proper_blocks.Given as goal

abbrev pub invariant-loop-e : goal.invariant-loop-e
invariant-loop-e l = Passing l.table l.elements l.e
