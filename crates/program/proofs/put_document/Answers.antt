-- `program::put_document` meets its contract: a stop, or the check's lines. Assumes nothing.
use native.Mathlib.Omega.{arith}
use Rattle.program.specs.Stages.{document_halts, document_fault, document_read}
use Rattle.program.proofs.put_document.Goals as goal

pub put_due_stop-requires : goal.put_due_stop-requires
put_due_stop-requires c = (document_halts c.args.table.now c.args.doc.now c.args.edits.now _ c.in-Err.ensures, omega (arith, c.requires.2))

pub returns-in-Err : goal.returns-in-Err
returns-in-Err c = document_fault c.args.table.now c.args.doc.now c.args.edits.now _ c.in-Err.ensures c.put_due_stop.ensures

pub put_check-requires : goal.put_check-requires
put_check-requires c = c.requires

pub returns : goal.returns
returns c = document_read c.args.table.now c.args.doc.now c.args.edits.now _ c.in-Ok.ensures c.put_check.ensures
