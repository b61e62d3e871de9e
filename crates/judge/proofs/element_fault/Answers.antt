-- `judge::element_fault` meets its contract. Assumes nothing.
use mathlib.Core.Bool.{not}
use mathlib.Core.Path.{ap}
use native.Mathlib.Omega.{arith}
use Rattle.judge.specs.Elements.{fault_past, fault_start, fault_other}
use Rattle.judge.proofs.element_fault.Goals as goal

pub returns-then-doc-i : goal.returns-then-doc-i
returns-then-doc-i c = fault_past c.args.table.now c.args.doc.now c.args.i (omega arith)

pub returns-then-not-is_start : goal.returns-then-not-is_start
returns-then-not-is_start c = fault_other c.args.table.now c.args.doc.now c.args.i (omega arith) c.is_start.ensures (ap not c.if-not-is_start.true)

pub returns : goal.returns
returns c = search fault_start
