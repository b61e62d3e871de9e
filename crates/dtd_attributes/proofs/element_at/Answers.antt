-- `dtd_attributes::element_at` meets its contract: the row that is found, and the one that is kept. Assumes nothing.
use borrow.Author.Rules.{rules}
use Rattle.std.proofs.Common.{◌≡◌, Err}
use lib.ListN.{drop}
use Rattle.dtd_attributes.specs.Adding.{definitions}
use Rattle.dtd_attributes.specs.Listed.{element_came, element_failed}
use Rattle.dtd_attributes.proofs.element_at.Goals as goal

pub returns-in_err-x : goal.returns-in_err-x
returns-in_err-x c =
    let e : c.from_residual.result ≡ Err c.in_err-x.field-0.0 = search rules in
    let args = c.args in
    rw e (element_failed args.text.now args.upto args.e c.definitions_at.new.attributes c.definitions_at.new.attributes args.heads.now args.rows.now c.in_err-x.field-0.0 (definitions args.text.now args.upto args.e (drop args.at args.text.now)) c.in_err-x.ensures)

pub keep_row-m-requires : goal.keep_row-m-requires
keep_row-m-requires c = let heads = c.requires.heads in (heads.long, heads.wide)

pub returns : goal.returns
returns c =
    let args = c.args in
    element_came _ _ _ _ _ _ _ _ _ _ _ _ (definitions args.text.now args.upto args.e (drop args.at args.text.now)) c.requires.heads c.find_row-f.ensures c.in_ok-x.ensures c.keep_row-m.ensures
