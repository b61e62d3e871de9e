-- `dtd_names::find_name` meets its contract: the number is i or more. Assumes nothing.
use Rattle.dtd_names.specs.Turns.{Sought}
use Rattle.dtd_names.proofs.find_name.Given as goal

abbrev pub invariant-loop-i : goal.invariant-loop-i
invariant-loop-i l = Sought l.text l.names l.at l.i
