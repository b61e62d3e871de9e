-- `dtd_row_bytes::put_attribute` meets its contract: its number, kind and status. Assumes nothing.
use borrow.Author.Rules.{rules}
use lib.ListN.{length-set}
use Rattle.dtd_row_bytes.specs.Turns.{attribute_put}
use Rattle.dtd_row_bytes.proofs.put_attribute.Goals as goal

pub bounds-out-at-2 : goal.bounds-out-at-2
bounds-out-at-2 c = simp length-set (search rules)

pub bounds-out-at-3 : goal.bounds-out-at-3
bounds-out-at-3 c = simp length-set (search rules)

pub returns : goal.returns
returns c = search (rules, attribute_put)
