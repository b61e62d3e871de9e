-- `fixed_values::fixed_kept` meets its contract. The loop's invariant is `Keeping`. Assumes nothing.
use Rattle.fixed_values.specs.Kept.{Keeping}
use Rattle.fixed_values.proofs.fixed_kept.Given as goal

abbrev pub invariant-loop-i : goal.invariant-loop-i
invariant-loop-i l = Keeping l.table l.e l.doc l.at l.i
