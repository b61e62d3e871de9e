-- `trail::names_to` meets its contract. The invariant is `Counting`; the measure is the entry. Assumes nothing.
use Rattle.trail.specs.Entries.{froms}
use Rattle.trail.specs.Write.{Counting}
use Rattle.trail.proofs.names_to.Given as goal

abbrev pub invariant-loop-j : goal.invariant-loop-j
invariant-loop-j l = Counting (froms l.entries) l.entry l.n l.j

abbrev pub decreases-loop-j : goal.decreases-loop-j
decreases-loop-j l = l.j
