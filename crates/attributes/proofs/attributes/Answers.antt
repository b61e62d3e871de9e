-- `attributes::attributes` meets its contract. Assumes nothing.
use Rattle.fixed_values.specs.Value.{count_in}
use Rattle.attributes.specs.Attributes.{not_judged, none_fixed, fixed_all, fixed_not}
use Rattle.attributes.proofs.attributes.Goals as goal

pub returns-in_err-after : goal.returns-in_err-after
returns-in_err-after c = not_judged c.args.table.now c.args.e c.args.doc.now c.args.at c.in_err-after.ensures _ c.from_residual.ensures.1

pub bounds-table-6626 : goal.bounds-table-6626
bounds-table-6626 c = search count_in

pub returns-then-table-eq0 : goal.returns-then-table-eq0
returns-then-table-eq0 c = none_fixed c.args.table.now c.args.e c.args.doc.now c.args.at c.in_ok-after.ensures c.if-table-eq0.true

pub returns-then-not-kept : goal.returns-then-not-kept
returns-then-not-kept c = fixed_not c.args.table.now c.args.e c.args.doc.now c.args.at c.in_ok-after.ensures c.fixed_kept-kept.ensures c.if-not-kept.true

pub returns : goal.returns
returns c = fixed_all c.args.table.now c.args.e c.args.doc.now c.args.at c.in_ok-after.ensures c.fixed_kept-kept.ensures c.if-not-kept.false
