-- `kept_keys::are_settled` meets its contract. Assumes nothing.
use Prim.Native.Nat.{◌-◌}
use lib.ListN.{length}
use Rattle.kept_keys.specs.Settled.{Settling}
use Rattle.kept_keys.proofs.are_settled.Given as goal

abbrev pub invariant-loop-at : goal.invariant-loop-at
invariant-loop-at l = Settling l.table l.ids l.doc l.initial.at l.field l.counts l.at

abbrev pub decreases-loop-at : goal.decreases-loop-at
decreases-loop-at l = length l.doc - l.at.place
