-- `cost::items` meets its contract. The loop's invariant is `Tallying`. Assumes nothing.
use Rattle.cost.specs.Items.{Tallying}
use Rattle.cost.proofs.items.Given as goal

abbrev pub invariant-loop-t : goal.invariant-loop-t
invariant-loop-t l = Tallying l.piece l.t-index l.n
