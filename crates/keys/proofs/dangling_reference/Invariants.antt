-- `keys::dangling_reference` meets its contract. The invariant is `Looking`; the measure is how many tokens are left. Assumes nothing.
use Prim.Native.Nat.{◌-◌}
use lib.ListN.{length}
use Rattle.keys.specs.Looking.{Looking}
use Rattle.keys.proofs.dangling_reference.Given as goal

abbrev pub invariant-loop-left : goal.invariant-loop-left
invariant-loop-left l = Looking l.table l.doc l.initial.at l.field l.at l.left

abbrev pub decreases-loop-left : goal.decreases-loop-left
decreases-loop-left l = length l.doc - l.at.place
