-- `judge::first_fault` meets its contract. The loop's invariant is `Looking`. Assumes nothing.
use Rattle.judge.specs.Elements.{Looking}
use Rattle.judge.proofs.first_fault.Given as goal

abbrev pub invariant-loop-i : goal.invariant-loop-i
invariant-loop-i l = Looking l.table l.doc l.low l.high l.i
