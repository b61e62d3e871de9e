-- `judge::judged_whole` meets its contract. Assumes nothing.
use native.Mathlib.Omega.{arith}
use lib.ListN.{length}
use Rattle.paper_laws.specs.Codes.{handed_on}
use Rattle.children.specs.Closed.{closed}
use Rattle.judge.specs.Elements.{first_in}
use Rattle.judge.specs.Check.{with_root, with_element, with_keys, whole_judged}
use Rattle.judge.proofs.judged_whole.Goals as goal

pub returns-in_err-root_fault : goal.returns-in_err-root_fault
returns-in_err-root_fault c =
    let a = c.args in
    handed_on c.from_residual.result c.in_err-root_fault.field-0.0 c.from_residual.ensures.1
    (whole_judged a.table.now a.doc.now (with_root a.table.now a.doc.now (first_in a.table.now a.doc.now 0 (length a.doc.now)) c.in_err-root_fault.field-0.0 c.in_err-root_fault.ensures))

pub first_fault-requires : goal.first_fault-requires
first_fault-requires c =
    record { table_value = c.requires.0; closed = closed c.args.doc.now _ c.closes.ensures; high_in_bounds = (c.requires.1, omega arith) }

pub returns-in_err-first_fault : goal.returns-in_err-first_fault
returns-in_err-first_fault c =
    let a = c.args in
    handed_on c.from_residual-in_err-first_fault.result c.in_err-first_fault.field-0.0 c.from_residual-in_err-first_fault.ensures.1
    (whole_judged a.table.now a.doc.now (with_element a.table.now a.doc.now c.in_ok-root_fault.ensures (first_in a.table.now a.doc.now 0 (length a.doc.now)) c.in_err-first_fault.field-0.0 c.in_err-first_fault.ensures))

pub returns : goal.returns
returns c =
    let a = c.args in
    whole_judged a.table.now a.doc.now
    (with_keys a.table.now a.doc.now c.in_ok-root_fault.ensures (first_in a.table.now a.doc.now 0 (length a.doc.now)) c.in_ok-first_fault.ensures c.key_fault.ensures)
