-- `dtd_list::put_list` meets its contract: what is left to put is the list from the next name on. Assumes nothing.
use Rattle.dtd_list.specs.Puts.{Listing}
use Rattle.dtd_list.proofs.put_list.Given as goal

abbrev pub invariant-loop-name : goal.invariant-loop-name
invariant-loop-name l = Listing l.text l.names l.initial.out l.to l.name-index l.k l.out
