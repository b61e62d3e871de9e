-- `trail::spell` meets its contract. The invariant is `Writing`; the measure is the entry. Assumes nothing.
use Rattle.trail.specs.Entries.{froms, names}
use Rattle.trail.specs.Write.{Writing}
use Rattle.trail.proofs.spell.Given as goal

abbrev pub invariant-loop-i : goal.invariant-loop-i
invariant-loop-i l = Writing (froms l.entries) (names l.entries) l.entry l.initial.sequence l.sequence l.k l.i

abbrev pub decreases-loop-i : goal.decreases-loop-i
decreases-loop-i l = l.i
