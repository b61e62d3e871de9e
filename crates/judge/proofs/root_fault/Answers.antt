-- `judge::root_fault` meets its contract. Assumes nothing.
use borrow.Author.Rules.{rules}
use Rattle.table.specs.Block.{table_has}
use Rattle.judge.specs.Check.{root_none, root_unknown, root_same, root_other}
use Rattle.judge.proofs.root_fault.Goals as goal

pub returns-then-doc-eq0 : goal.returns-then-doc-eq0
returns-then-doc-eq0 c = search root_none

pub returns-then-not-is_start : goal.returns-then-not-is_start
returns-then-not-is_start c = search root_unknown

pub bounds-table-1 : goal.bounds-table-1
bounds-table-1 c = search (rules, table_has)

pub returns-then-number-table : goal.returns-then-number-table
returns-then-number-table c = search root_same

pub returns : goal.returns
returns c = search root_other
