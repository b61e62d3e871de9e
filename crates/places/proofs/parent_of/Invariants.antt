use Rattle.places.specs.EndTurns.{Opening}
use Rattle.places.proofs.parent_of.Given as goal

abbrev pub invariant-loop-i : goal.invariant-loop-i
invariant-loop-i l = Opening l.doc l.at l.i l.k
