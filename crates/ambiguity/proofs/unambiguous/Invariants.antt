-- `unambiguous` meets its contract. The loop: the answer is that of the follow sets from k on, and the set before holds no two. Assumes nothing.
use Rattle.ambiguity.proofs.Sharing.{Going}
use Rattle.ambiguity.proofs.unambiguous.Given as goal

abbrev pub invariant-loop-k : goal.invariant-loop-k
invariant-loop-k l = Going l.count l.first l.names l.follow l.known l.k
