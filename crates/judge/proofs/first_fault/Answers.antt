-- `judge::first_fault` meets its contract. The loop's invariant is `Looking`. Assumes nothing.
use borrow.Author.Rules.{rules}
use Rattle.paper_laws.specs.Codes.{handed_on}
use Rattle.judge.specs.Elements.{looking_begin, looking_none, looking_on, looking_other, looking_found}
use Rattle.judge.proofs.first_fault.Goals as goal

pub loop-i-init : goal.loop-i-init
loop-i-init c = search looking_begin

pub loop-i-preserved-then-not-is_start : goal.loop-i-preserved-then-not-is_start
loop-i-preserved-then-not-is_start c = search looking_other

pub returns-in_err-element_fault : goal.returns-in_err-element_fault
returns-in_err-element_fault c =
    handed_on c.from_residual.result c.in_err-element_fault.field-0.0 c.from_residual.ensures.1
    (looking_found c.args.table.now c.args.doc.now c.args.low c.args.high c.loop-i.invariant c.loop-i-test.true c.requires.high_in_bounds.1 c.in_err-element_fault.field-0.0 c.in_err-element_fault.ensures)

pub loop-i-preserved : goal.loop-i-preserved
loop-i-preserved c =
    let k = c.in_ok-element_fault.ensures in
    looking_on c.args.table.now c.args.doc.now c.args.low c.args.high c.loop-i.invariant c.loop-i-test.true c.requires.high_in_bounds.1 k.0

pub returns : goal.returns
returns c = search looking_none
