-- `dtd_list::names_length` meets its contract: what is counted of the elements says how much is left for the attributes. Assumes nothing.
use borrow.Author.Rules.{rules}
use Rattle.dtd_list.specs.Lengths.{both_over, both_up}
use Rattle.dtd_list.proofs.names_length.Goals as goal

pub returns-then-room-n : goal.returns-then-room-n
returns-then-room-n c = search (rules, both_over)

pub returns : goal.returns
returns c = search (rules, both_up)
