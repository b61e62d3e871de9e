-- `edits::edit_shaped` meets its contract. Assumes nothing.
use mathlib.Core.Path.{◌≡◌, sym, ap, ◌∙◌}
use borrow.Author.Rules.{rules}
use lib.Seq.{length-take-le}
use Rattle.shape_laws.specs.Shaped.{shaped, shape_alone}
use Rattle.edits.specs.Outcomes.{refusal}
use Rattle.edits.proofs.Outcomes.{edit_form}
use Rattle.edits.proofs.edit_shaped.Goals as goal

pub slice_bounds-form_of-end : goal.slice_bounds-form_of-end
slice_bounds-form_of-end c = (shaped c.args.doc.now c.args.used c.requires.1).long

pub slice_bounds-form_of-end-2 : goal.slice_bounds-form_of-end-2
slice_bounds-form_of-end-2 c = sym (length-take-le _ _ (shaped c.args.doc.now c.args.used c.requires.1).long)

pub form_of-requires : goal.form_of-requires
form_of-requires c =
    let s = shape_alone c.args.doc.now c.args.used c.requires.1 in
    search (rules, s)

pub returns-in-Err : goal.returns-in-Err
returns-in-Err c =
    let a = c.args in
    edit_form a.operation a.place a.piece.now a.doc.now a.used a.table.now a.back.now a.counts.now c.in-Err.refusal c.in-Err.ensures (c.refused.ensures ∙ ap (λ k. refusal k 0 a.used) c.number.ensures)

pub edit_in_form-requires : goal.edit_in_form-requires
edit_in_form-requires c = record { table_value = c.requires; form = c.in-Ok.ensures }

pub returns-in-Ok : goal.returns-in-Ok
returns-in-Ok c = c.edit_in_form.ensures
