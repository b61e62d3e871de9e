-- `edit_list::list_fault` meets its contract. The loop's invariant is `Begun`; the measure is how many numbers are left. Assumes nothing.
use Prim.Native.Nat.{◌-◌}
use lib.ListN.{length}
use Rattle.edit_list.specs.Faults.{Begun}
use Rattle.edit_list.proofs.list_fault.Given as goal

abbrev pub invariant-loop-at : goal.invariant-loop-at
invariant-loop-at l = Begun l.list l.at l.begun

abbrev pub decreases-loop-at : goal.decreases-loop-at
decreases-loop-at l = length l.list - l.at
