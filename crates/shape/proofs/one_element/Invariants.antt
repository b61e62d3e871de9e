use Rattle.shape.specs.ScanTurns.{Scanning}
use Rattle.shape.proofs.one_element.Given as goal

abbrev pub invariant-loop-i : goal.invariant-loop-i
invariant-loop-i l = Scanning l.doc l.i l.s
