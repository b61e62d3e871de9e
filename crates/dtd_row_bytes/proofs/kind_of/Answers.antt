-- `dtd_row_bytes::kind_of` meets its contract. Assumes nothing.
use borrow.Author.Rules.{rules}
use Rattle.dtd_row_bytes.specs.Turns.{is_id_lem, is_idref, is_idrefs, is_cdata}
use Rattle.dtd_row_bytes.proofs.kind_of.Goals as goal

pub returns-then-has : goal.returns-then-has
returns-then-has c = search (rules, is_id_lem)

pub returns-then-has-2 : goal.returns-then-has-2
returns-then-has-2 c = search (rules, is_idref)

pub returns-then-has-3 : goal.returns-then-has-3
returns-then-has-3 c = search (rules, is_idrefs)

pub returns : goal.returns
returns c = search (rules, is_cdata)
