-- `dtd_list::put_list` meets its contract: what is left to put is the list from the next name on. Assumes nothing.
use borrow.Author.Rules.{rules}
use Rattle.dtd_list.specs.Puts.{listing_none, listing_room, listing_more, listing_all}
use Rattle.dtd_list.proofs.put_list.Goals as goal

pub loop-name-init : goal.loop-name-init
loop-name-init c = search (rules, listing_none)

pub put_name-k-requires : goal.put_name-k-requires
put_name-k-requires c = search (rules, listing_room)

pub loop-name-preserved : goal.loop-name-preserved
loop-name-preserved c = search (rules, listing_more)

pub returns : goal.returns
returns c = search (rules, listing_all)
