-- `touched::touched_fault` meets its contract. Assumes nothing.
use mathlib.Core.Path.{refl}
use mathlib.Core.List.{[]}
use native.Mathlib.Omega.{arith}
use Rattle.children.specs.Closed.{closed_none}
use Rattle.std.proofs.lemmas.Result.{err_from_is_err_and}
use Rattle.touched.specs.Touched.{touched_alone, touched_parent, touched_piece, parent_few}
use Rattle.touched.proofs.touched_fault.Goals as goal

pub returns-then-at-parent : goal.returns-then-at-parent
returns-then-at-parent c = search touched_alone

pub element_fault-requires : goal.element_fault-requires
element_fault-requires c =
    record { table_value = c.requires.table_value; closed = closed_none c.args.doc.now [] refl; doc_len_bound = c.requires.coming_in_bounds.0 }

pub returns-in_err-over : goal.returns-in_err-over
returns-in_err-over c =
    let p = err_from_is_err_and c.from_residual.result c.from_residual.ensures.1 in
    rw (p.1, p.2) (touched_parent c.args.table.now c.args.doc.now c.args.at c.args.coming c.requires.coming_in_bounds.1 c.requires.parent_value (omega arith) c.in_err-over.field-0.0 c.in_err-over.ensures)

pub with_piece-requires-2 : goal.with_piece-requires-2
with_piece-requires-2 c =
    let few = parent_few c.args.table.now c.args.doc.now c.args.parent c.requires.coming_in_bounds.0 c.in_ok-over.ensures in
    record { table_value = c.requires.table_value; coming_in_bounds = (omega (arith, c.requires.coming_in_bounds), omega (arith, c.requires.coming_in_bounds), few) }

pub returns : goal.returns
returns c =
    touched_piece c.args.table.now c.args.doc.now c.args.at c.args.coming c.requires.coming_in_bounds.1 c.requires.parent_value (omega arith) c.in_ok-over.ensures c.requires.comes
    c.with_piece-2.result c.with_piece-2.ensures
