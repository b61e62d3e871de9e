-- `next_edits::next_edit` meets its contract. Assumes nothing.
use mathlib.Core.Path.{◌≡◌, sym, ap, ap₂, ◌∙◌}
use native.Mathlib.Omega.{arith}
use borrow.Author.Rules.{rules}
use lib.Seq.{length-take-le}
use Rattle.shape_laws.specs.Shaped.{shaped, shape_alone}
use Rattle.edits.specs.Outcomes.{refusal}
use Rattle.edits.proofs.Outcomes.{ready_few, ready_room, ready_long, ready_within, ready_at, ready_front, ready_comes, ready_under, ready_inner, edited_long, edited_comes}
use Rattle.next_edits.specs.Single.{next_form, next_counts, next_fault, next_done}
use Rattle.next_edits.proofs.next_edit.Goals as goal

pub slice_bounds-form_of-end : goal.slice_bounds-form_of-end
slice_bounds-form_of-end c = (shaped c.args.doc.now c.args.used c.requires.1).long

pub slice_bounds-form_of-end-2 : goal.slice_bounds-form_of-end-2
slice_bounds-form_of-end-2 c = sym (length-take-le _ _ (shaped c.args.doc.now c.args.used c.requires.1).long)

pub form_of-requires : goal.form_of-requires
form_of-requires c =
    let s = shape_alone c.args.doc.now c.args.used c.requires.1 in
    search (rules, s)

pub returns-in-Err : goal.returns-in-Err
returns-in-Err c =
    let a = c.args in
    next_form a.operation a.place a.piece.now a.table.now a.doc.now a.used a.counts.now c.requires.0 c.requires.1 c.in-Err.refusal c.in-Err.ensures (c.refused.ensures ∙ ap (λ k. refusal k 0 a.used) c.number.ensures)

pub next_in_form-requires : goal.next_in_form-requires
next_in_form-requires c = record { table_value = (c.requires.0, c.requires.1); form = c.in-Ok.ensures }

pub returns-in-Ok : goal.returns-in-Ok
returns-in-Ok c = c.next_in_form.ensures
