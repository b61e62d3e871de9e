use Rattle.set_walks.specs.Joined.{joined, Joining}
use Rattle.set_walks.proofs.connect.Given as goal

abbrev pub invariant-loop-k : goal.invariant-loop-k
invariant-loop-k l = Joining (joined l.from l.to l.initial.follow) l.to l.follow l.k-iterator.0
