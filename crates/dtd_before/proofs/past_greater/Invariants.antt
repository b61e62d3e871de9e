-- `dtd_before::past_greater` meets its contract: no `>` stands before i. Assumes nothing.
use Rattle.dtd_before.specs.Turns.{Ahead}
use Rattle.dtd_before.proofs.past_greater.Given as goal

abbrev pub invariant-loop-i : goal.invariant-loop-i
invariant-loop-i l = Ahead l.text l.at l.i
