-- `dtd_list::put_name` meets its contract: what is left to put is the name from i on, and byte 10. Assumes nothing.
use Prim.Native.Nat.{◌-◌}
use lib.ListN.{length}
use Rattle.dtd_list.specs.Puts.{Naming}
use Rattle.dtd_list.proofs.put_name.Given as goal

abbrev pub invariant-loop-out : goal.invariant-loop-out
invariant-loop-out l = Naming l.text l.at l.initial.out l.to l.i l.k l.out

abbrev pub decreases-loop-out : goal.decreases-loop-out
decreases-loop-out l = length l.text - l.i
