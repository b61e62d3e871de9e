-- `fixed_values::value_of` meets its contract. The loop's invariant is `Looking`. Assumes nothing.
use Rattle.fixed_values.specs.Value.{Looking}
use Rattle.fixed_values.proofs.value_of.Given as goal

abbrev pub invariant-loop-i : goal.invariant-loop-i
invariant-loop-i l = Looking l.table l.n l.e l.a l.i
