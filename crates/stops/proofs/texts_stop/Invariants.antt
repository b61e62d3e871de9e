-- `stops::texts_stop` meets its contract. The loop's invariant is `Reading`. Assumes nothing.
use Rattle.stops.specs.Texts.{Reading}
use Rattle.stops.proofs.texts_stop.Given as goal

abbrev pub invariant-loop-i : goal.invariant-loop-i
invariant-loop-i l = Reading l.doc l.at l.most l.i l.children
