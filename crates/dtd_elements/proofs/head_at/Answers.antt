-- `dtd_elements::head_at` meets its contract: a keyword, a name, white space. Assumes nothing.
use Rattle.std.proofs.Common.{◌≡◌, Err}
use Rattle.dtd_elements.specs.Heads.{no_start, new_inside, no_gap}
use borrow.Author.Rules.{rules}
use Rattle.dtd_elements.proofs.head_at.Goals as goal

pub returns-in_err-name : goal.returns-in_err-name
returns-in_err-name c =
    let e : c.from_residual.result ≡ Err c.in_err-name.field-0.0 = search rules in
    rw e (no_start c.args.text.now c.args.at c.args.elements.now c.requires c.in_err-name.field-0.0 c.in_err-name.ensures)

pub white_at-requires : goal.white_at-requires
white_at-requires c =
    new_inside c.args.text.now c.args.at c.args.elements.now c.requires c.in_ok-name.name c.in_ok-name.ensures c.in_ok-end.end c.in_ok-end.ensures

pub returns-in_err-behind : goal.returns-in_err-behind
returns-in_err-behind c =
    let e : c.from_residual-in_err-behind.result ≡ Err c.in_err-behind.field-0.0 = search rules in
    rw e (no_gap c.args.text.now c.args.at c.args.elements.now c.requires c.in_ok-name.name c.in_ok-name.ensures c.in_ok-end.end c.in_ok-end.ensures c.in_err-behind.field-0.0 c.in_err-behind.ensures)
