-- `touched::judged_elements` meets its contract. Assumes nothing.
use Rattle.std.proofs.lemmas.Result.{err_from_is_err_and}
use Rattle.touched.specs.Judged.{elements_root, elements_good}
use Rattle.touched.proofs.judged_elements.Goals as goal

pub returns-in_err-root_fault : goal.returns-in_err-root_fault
returns-in_err-root_fault c =
    let p = err_from_is_err_and c.from_residual.result c.from_residual.ensures.1 in
    rw (p.1, p.2) (elements_root c.args.table.now c.args.doc.now c.args.at c.args.coming c.in_err-root_fault.field-0.0 c.in_err-root_fault.ensures)

pub returns : goal.returns
returns c = elements_good c.args.table.now c.args.doc.now c.args.at c.args.coming c.in_ok-root_fault.ensures c.touched_fault.result c.touched_fault.ensures
