-- `dtd_definitions::definition_at` meets its contract: step by step. Assumes nothing.
use borrow.Author.Rules.{rules}
use Rattle.std.proofs.Common.{◌≡◌, Err}
use Rattle.dtd_names.specs.Named.{names_at}
use Rattle.dtd_definitions.specs.Whole.{name_inside, kind_inside, no_name_there, no_kind_there, no_status_there, all_there}
use Rattle.dtd_definitions.proofs.definition_at.Goals as goal

pub returns-in_err-n : goal.returns-in_err-n
returns-in_err-n c =
    let e : c.from_residual.result ≡ Err c.in_err-n.field-0.0 = search rules in
    let names = names_at c.args.text.now c.args.attributes.now in
    rw e (no_name_there c.args.text.now names c.args.row c.args.at c.in_err-n.field-0.0 c.in_err-n.ensures)

pub kind_after-requires : goal.kind_after-requires
kind_after-requires c =
    name_inside c.args.text.now (names_at c.args.text.now c.args.attributes.now) c.in_ok-n.n _ c.in_ok-n.ensures

pub returns-in_err-k : goal.returns-in_err-k
returns-in_err-k c =
    let e : c.from_residual-in_err-k.result ≡ Err c.in_err-k.field-0.0 = search rules in
    let names = names_at c.args.text.now c.args.attributes.now in
    rw e (no_kind_there c.args.text.now names c.args.row c.args.at c.in_ok-n.n c.in_ok-n.ensures c.in_err-k.field-0.0 c.in_err-k.ensures)

pub status_after-requires : goal.status_after-requires
status_after-requires c = kind_inside c.args.text.now c.in_ok-k.k _ c.in_ok-k.ensures

pub returns-in_err-s : goal.returns-in_err-s
returns-in_err-s c =
    let e : c.from_residual-in_err-s.result ≡ Err c.in_err-s.field-0.0 = search rules in
    let names = names_at c.args.text.now c.args.attributes.now in
    rw e (no_status_there c.args.text.now names c.args.row c.args.at c.in_ok-n.n c.in_ok-n.ensures c.in_ok-k.k c.in_ok-k.ensures c.in_err-s.field-0.0 c.in_err-s.ensures)

pub returns : goal.returns
returns c =
    let names = names_at c.args.text.now c.args.attributes.now in
    all_there c.args.text.now names c.args.row c.args.at c.in_ok-n.n c.in_ok-n.ensures c.in_ok-k.k c.in_ok-k.ensures c.in_ok-s.s c.in_ok-s.ensures
