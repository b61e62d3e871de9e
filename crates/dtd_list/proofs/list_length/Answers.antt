-- `dtd_list::list_length` meets its contract: n bytes up to the next name. Assumes nothing.
use borrow.Author.Rules.{rules}
use Rattle.dtd_list.specs.Lengths.{summed_none, summed_over, summed_more, summed_all}
use Rattle.dtd_list.proofs.list_length.Goals as goal

pub loop-name-init : goal.loop-name-init
loop-name-init c = search (rules, summed_none)

pub returns-then-room-n : goal.returns-then-room-n
returns-then-room-n c = search (rules, summed_over)

pub loop-name-preserved : goal.loop-name-preserved
loop-name-preserved c = search (rules, summed_more)

pub returns : goal.returns
returns c = search (rules, summed_all)
