-- `children::model_stop` meets its contract. The loop's invariant is `Running`; the measure is how many tokens are left. Assumes nothing.
use Rattle.std.proofs.Common.{◌-◌, length}
use Rattle.children.specs.Model.{Running}
use Rattle.children.proofs.model_stop.Given as goal

abbrev pub invariant-loop-i : goal.invariant-loop-i
invariant-loop-i l = Running l.block l.doc l.at l.i l.run l.children

abbrev pub decreases-loop-i : goal.decreases-loop-i
decreases-loop-i l = length l.doc - l.i
