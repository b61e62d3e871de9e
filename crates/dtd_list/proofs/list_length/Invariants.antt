-- `dtd_list::list_length` meets its contract: n bytes up to the next name. Assumes nothing.
use Rattle.dtd_list.specs.Lengths.{Summed}
use Rattle.dtd_list.proofs.list_length.Given as goal

abbrev pub invariant-loop-name : goal.invariant-loop-name
invariant-loop-name l = Summed l.text l.names l.from l.room l.n l.name-index
