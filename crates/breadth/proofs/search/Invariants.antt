-- `breadth::search` meets its contract. The loop's invariant is `Going`, with the buffer as it was; the measure is how many pairs are left. Assumes nothing.
use mathlib.Core.Path.{◌≡◌}
use Prim.Native.Nat.{◌-◌}
use Rattle.paper.specs.Basics.{sequence_places}
use Rattle.trail.specs.Entries.{mets, froms, names}
use Rattle.breadth.specs.Going.{Going}
use Rattle.breadth.proofs.search.Given as goal

abbrev pub invariant-loop-head : goal.invariant-loop-head
invariant-loop-head l = Going l.old l.new l.elements l.seen (mets l.entries) (froms l.entries) (names l.entries) l.head l.tail × (l.sequence ≡ l.initial.sequence)

abbrev pub decreases-loop-head : goal.decreases-loop-head
decreases-loop-head l = sequence_places - l.head
