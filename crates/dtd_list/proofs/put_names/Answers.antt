-- `dtd_list::put_names` meets its contract: the elements, then the attributes. Assumes nothing.
use borrow.Author.Rules.{rules}
use Rattle.dtd_list.specs.Puts.{first_roomy, second_roomy, both_put}
use Rattle.dtd_list.proofs.put_names.Goals as goal

pub put_list-k-requires : goal.put_list-k-requires
put_list-k-requires c = search (rules, first_roomy)

pub put_list-requires : goal.put_list-requires
put_list-requires c = search (rules, second_roomy)

pub returns : goal.returns
returns c = search (rules, both_put)
