use Rattle.paper.specs.Basics.{distinct}
use Rattle.paper.specs.Table.{chosen}
use Rattle.set_walks.specs.Seen.{Seeing}
use Rattle.set_walks.proofs.one_each.Given as goal

abbrev pub invariant-loop-k : goal.invariant-loop-k
invariant-loop-k l = Seeing l.names (distinct (chosen l.set l.names)) l.k-iterator.0 l.seen
