-- `working::turns` meets its contract. The loop's invariant is `Working`; the measure is how many numbers are left. Assumes nothing.
use mathlib.Core.Path.{◌≡◌}
use Prim.Native.Nat.{◌-◌}
use lib.ListN.{length}
use Rattle.working.specs.Working.{Working}
use Rattle.working.proofs.turns.Given as goal

abbrev pub invariant-loop-at : goal.invariant-loop-at
invariant-loop-at l = Working l.initial.second l.room l.used l.list l.at l.begun l.end l.second × (length l.second ≡ length l.initial.second) × (length l.new ≡ length l.initial.new)

abbrev pub decreases-loop-at : goal.decreases-loop-at
decreases-loop-at l = length l.list - l.at
