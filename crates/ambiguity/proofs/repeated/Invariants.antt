-- `repeated` meets its contract. The loop: it holds of the first i places. Assumes nothing.
use Rattle.ambiguity.proofs.Sharing.{Repeats}
use Rattle.ambiguity.proofs.repeated.Given as goal

abbrev pub invariant-loop-i : goal.invariant-loop-i
invariant-loop-i l = Repeats l.n l.names l.seen l.twice l.i
