-- `places_of` meets its contract. The loop: it holds of the first i places. Assumes nothing.
use Rattle.ambiguity.proofs.Sharing.{Placed}
use Rattle.ambiguity.proofs.places_of.Given as goal

abbrev pub invariant-loop-i : goal.invariant-loop-i
invariant-loop-i l = Placed l.set l.n l.names l.found l.i
