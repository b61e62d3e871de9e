-- `dtd_schema::put_rows` meets its contract: a row after another. Assumes nothing.
use borrow.Author.Rules.{rules}
use Rattle.dtd_schema.specs.Rows.{begun, below, next, filled}
use Rattle.dtd_schema.proofs.put_rows.Goals as goal

pub loop-j-init : goal.loop-j-init
loop-j-init c = search (rules, begun)

pub store_row-requires : goal.store_row-requires
store_row-requires c = search (rules, below)

pub loop-j-preserved : goal.loop-j-preserved
loop-j-preserved c = search (rules, next)

pub returns : goal.returns
returns c = search (rules, filled)
