-- `judge::fault_from` meets its contract. Assumes nothing.
use native.Mathlib.Omega.{arith}
use borrow.Author.Rules.{rules}
use Rattle.table.specs.Block.{table_has}
use Rattle.children.specs.Content.{stop_within}
use Rattle.judge.specs.Elements.{fault_name, fault_attributes, fault_content, fault_none}
use Rattle.judge.proofs.fault_from.Goals as goal

pub bounds-table-0 : goal.bounds-table-0
bounds-table-0 c = search (rules, table_has)

pub returns-then-e-table : goal.returns-then-e-table
returns-then-e-table c = search fault_name

pub returns-in-Err : goal.returns-in-Err
returns-in-Err c = fault_attributes c.args.table.now c.args.e c.args.doc.now c.args.start (omega arith) c.in-Err.ensures.0

pub overflow_cast-result : goal.overflow_cast-result
overflow_cast-result c =
    let h = stop_within _ _ c.args.doc.now _ c.in-Ok.ensures.1.within c.in-Err-content.ensures in
    omega (arith, h, c.requires.start_in_bounds)

pub returns-in-Ok-content : goal.returns-in-Ok-content
returns-in-Ok-content c = fault_none c.args.table.now c.args.e c.args.doc.now c.args.start (omega arith) c.in-Ok.ensures c.in-Ok-content.ensures

pub returns-in-Err-content : goal.returns-in-Err-content
returns-in-Err-content c = fault_content c.args.table.now c.args.e c.args.doc.now c.args.start (omega arith) c.in-Ok.ensures c.in-Err-content.ensures
