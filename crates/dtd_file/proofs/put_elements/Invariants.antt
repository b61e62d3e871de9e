-- `dtd_file::put_elements` meets its contract: what is left to put is the elements from the j-th on. Assumes nothing.
use Rattle.dtd_file.specs.Turns.{Going}
use Rattle.dtd_file.proofs.put_elements.Given as goal

abbrev pub invariant-loop-j : goal.invariant-loop-j
invariant-loop-j l = Going l.text l.elements l.contents l.ends l.rows l.initial.out l.j l.next l.out
