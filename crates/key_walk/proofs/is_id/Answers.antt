-- `key_walk::is_id` meets its contract. Assumes nothing.
use borrow.Author.Rules.{rules}
use Rattle.key_walk.specs.Kinds.{is_below, id_none, id_some}
use Rattle.key_walk.proofs.is_id.Goals as goal

pub returns-then-not-is_declared : goal.returns-then-not-is_declared
returns-then-not-is_declared c = search id_none

pub cell-requires : goal.cell-requires
cell-requires c = search (rules, is_below)

pub returns : goal.returns
returns c = search id_some
