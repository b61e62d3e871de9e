use Rattle.closing.specs.ClosingTurns.{Closing}
use Rattle.closing.proofs.closes.Given as goal

abbrev pub invariant-loop-p : goal.invariant-loop-p
invariant-loop-p l = Closing l.doc l.initial.out l.out l.p l.e
