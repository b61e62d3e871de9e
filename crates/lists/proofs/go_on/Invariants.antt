-- `lists::go_on` meets its contract. The loop's invariant is `GoingKept`; the measure is how many numbers are left. Assumes nothing.
use Prim.Native.Nat.{◌-◌}
use lib.ListN.{length}
use Rattle.lists.specs.Kept.{GoingKept}
use Rattle.lists.proofs.go_on.Given as goal

abbrev pub invariant-loop-at : goal.invariant-loop-at
invariant-loop-at l = GoingKept l.table l.initial.doc l.used l.list l.initial.counts l.initial.new l.initial.field l.initial.referred l.doc l.counts l.new l.field l.referred l.last l.done l.at

abbrev pub decreases-loop-at : goal.decreases-loop-at
decreases-loop-at l = length l.list - l.at
