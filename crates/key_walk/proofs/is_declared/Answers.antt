-- `key_walk::is_declared` meets its contract. Assumes nothing.
use borrow.Author.Rules.{rules}
use Rattle.table.specs.Block.{table_has}
use Rattle.key_walk.proofs.is_declared.Goals as goal

pub bounds-table-0 : goal.bounds-table-0
bounds-table-0 c = search (rules, table_has)
