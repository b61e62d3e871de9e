-- `checks::check` meets its contract. Assumes nothing.
use mathlib.Core.Path.{refl}
use Rattle.std.proofs.lemmas.Result.{err_from_is_err_and}
use Rattle.paper_laws.specs.Codes.{refused}
use Rattle.checks.specs.Checked.{valid_first, valid_fits, valid_part, valid_few, check_left, check_written}
use Rattle.checks.proofs.check.Goals as goal

pub returns-in_err-check : goal.returns-in_err-check
returns-in_err-check c =
    let p = err_from_is_err_and c.from_residual.result c.from_residual.ensures.1 in
    rw (p.1, p.2) (check_left c.args.table.now c.args.doc.now c.args.used c.in_err-check.ensures (refused c.in_err-check.field-0.0.refusal))

pub bounds-table-0 : goal.bounds-table-0
bounds-table-0 c = valid_first c.args.table.now c.args.doc.now c.args.used c.in_ok-check.ensures refl

pub overflow_cast-elements : goal.overflow_cast-elements
overflow_cast-elements c = valid_fits c.args.table.now c.args.doc.now c.args.used c.in_ok-check.ensures refl

pub slice_bounds-count-end : goal.slice_bounds-count-end
slice_bounds-count-end c = valid_part c.args.table.now c.args.doc.now c.args.used c.in_ok-check.ensures refl

pub count-requires : goal.count-requires
count-requires c = valid_few c.args.table.now c.args.doc.now c.args.used c.in_ok-check.ensures refl

pub returns : goal.returns
returns c = check_written c.args.table.now c.args.doc.now c.args.used c.in_ok-check.ensures c.args.counts.now refl c.count.ensures
