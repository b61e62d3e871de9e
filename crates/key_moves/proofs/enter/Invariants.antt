-- `key_moves::enter` meets its contract. Assumes nothing.
use Prim.Native.Nat.{◌-◌}
use lib.ListN.{length}
use Rattle.key_moves.specs.Turns.{Entering}
use Rattle.key_moves.proofs.enter.Given as goal

abbrev pub invariant-loop-at : goal.invariant-loop-at
invariant-loop-at l = Entering l.table l.doc l.initial.at l.initial.field l.initial.counts l.at l.fresh l.field l.counts

abbrev pub decreases-loop-at : goal.decreases-loop-at
decreases-loop-at l = length l.doc - l.at.place
