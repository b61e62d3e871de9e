use Rattle.set_walks.specs.Named.{next_named, Seeking}
use Rattle.set_walks.proofs.next_named.Given as goal

abbrev pub invariant-loop-k : goal.invariant-loop-k
invariant-loop-k l = Seeking l.names l.name (next_named l.set l.names l.name) l.k-iterator.0
