-- `key_walk::is_reference` meets its contract. Assumes nothing.
use borrow.Author.Rules.{rules}
use Rattle.key_walk.specs.Kinds.{is_below, ref_none, ref_some}
use Rattle.key_walk.proofs.is_reference.Goals as goal

pub returns-then-not-is_declared : goal.returns-then-not-is_declared
returns-then-not-is_declared c = search ref_none

pub cell-idref-requires : goal.cell-idref-requires
cell-idref-requires c = search (rules, is_below)

pub cell-idrefs-requires : goal.cell-idrefs-requires
cell-idrefs-requires c = search (rules, is_below)

pub returns : goal.returns
returns c = search ref_some
