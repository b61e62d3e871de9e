-- `breadth::expand` meets its contract. The loop's invariant is `Trying`. Assumes nothing.
use Rattle.trail.specs.Entries.{mets, froms, names}
use Rattle.breadth.specs.Going.{Trying}
use Rattle.breadth.proofs.expand.Given as goal

abbrev pub invariant-loop-child : goal.invariant-loop-child
invariant-loop-child l = Trying l.old l.new l.elements l.seen (mets l.entries) (froms l.entries) (names l.entries) l.head l.end l.pair l.child
