use Rattle.places.specs.EndTurns.{Ending}
use Rattle.places.proofs.end_of.Given as goal

abbrev pub invariant-loop-i : goal.invariant-loop-i
invariant-loop-i l = Ending l.doc l.place l.i l.k
