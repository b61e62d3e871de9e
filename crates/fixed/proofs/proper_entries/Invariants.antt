-- `fixed::proper_entries` meets its contract. The loop's invariant is `Testing`. Assumes nothing.
use Rattle.fixed.specs.Entries.{Testing}
use Rattle.fixed.proofs.proper_entries.Given as goal

abbrev pub invariant-loop-i : goal.invariant-loop-i
invariant-loop-i l = Testing l.table l.n l.e l.low l.i
