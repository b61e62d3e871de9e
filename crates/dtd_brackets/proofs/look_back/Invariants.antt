-- `dtd_brackets::look_back` meets its contract: `Backward` holds at i. Assumes nothing.
use Rattle.dtd_brackets.specs.Back.{Backward}
use Rattle.dtd_brackets.proofs.look_back.Given as goal

abbrev pub invariant-loop-i : goal.invariant-loop-i
invariant-loop-i l = Backward l.text l.from l.at l.i l.level l.now l.window l.power

abbrev pub decreases-loop-i : goal.decreases-loop-i
decreases-loop-i l = l.i
