-- `touched::judged` meets its contract. Assumes nothing.
use Rattle.std.proofs.lemmas.Result.{err_from_is_err_and}
use Rattle.touched.specs.Judged.{found_elements, found_keys}
use Rattle.touched.proofs.judged.Goals as goal

pub returns-in_err-children : goal.returns-in_err-children
returns-in_err-children c =
    let p = err_from_is_err_and c.from_residual.result c.from_residual.ensures.1 in
    rw (p.1, p.2) (found_elements c.args.table.now c.args.doc.now c.args.at c.args.coming c.in_err-children.field-0.0 c.in_err-children.ensures)

pub returns-in_err-key_fault : goal.returns-in_err-key_fault
returns-in_err-key_fault c =
    let k = c.in_ok-children.ensures in
    let p = err_from_is_err_and c.from_residual-in_err-key_fault.result c.from_residual-in_err-key_fault.ensures.1 in
    rw (p.1, p.2) (found_keys c.args.table.now c.args.doc.now c.args.at c.args.coming k.0 c.in_err-key_fault.ensures)

pub returns : goal.returns
returns c =
    let k = c.in_ok-children.ensures in
    (found_keys c.args.table.now c.args.doc.now c.args.at c.args.coming k.0 c.in_ok-key_fault.ensures, k.1)
