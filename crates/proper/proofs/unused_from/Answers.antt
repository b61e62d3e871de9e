-- `unused_from` meets its contract. The loop's invariant is `Unused`. Assumes nothing.
use Rattle.proper.specs.Whole.{unused_none, unused_all, unused_more, unused_not}
use Rattle.proper.proofs.unused_from.Goals as goal

pub loop-e-init : goal.loop-e-init
loop-e-init c = search unused_none

pub returns-then-not-all_zero : goal.returns-then-not-all_zero
returns-then-not-all_zero c = search unused_not

pub loop-e-preserved : goal.loop-e-preserved
loop-e-preserved c = search unused_more

pub returns : goal.returns
returns c = search unused_all
