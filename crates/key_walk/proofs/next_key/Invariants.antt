-- `key_walk::next_key` meets its contract. The loop: no key was passed; the measure is how many tokens are left. Assumes nothing.
use Prim.Native.Nat.{◌-◌}
use lib.ListN.{length}
use Rattle.key_walk.specs.Walk.{Came}
use Rattle.key_walk.proofs.next_key.Given as goal

abbrev pub invariant-loop-at : goal.invariant-loop-at
invariant-loop-at l = Came l.table l.doc l.initial.at l.at

abbrev pub decreases-loop-at : goal.decreases-loop-at
decreases-loop-at l = length l.doc - l.at.place
