-- `next_edits::kept_edit` meets its contract. Assumes nothing.
use mathlib.Core.Path.{◌≡◌, sym, ap, ap₂, ◌∙◌}
use native.Mathlib.Omega.{arith}
use borrow.Author.Rules.{rules}
use lib.Seq.{length-take-le}
use Rattle.shape_laws.specs.Shaped.{shaped, shape_alone}
use Rattle.edits.specs.Outcomes.{refusal}
use Rattle.edits.proofs.Outcomes.{ready_few, ready_room, ready_long, ready_within, ready_at, ready_front, ready_comes, ready_under, ready_inner, edited_long, edited_comes}
use Rattle.next_edits.specs.Single.{next_form, next_counts, next_fault, next_done}
use Rattle.paper_laws.specs.Codes.{refused as refused_number}
use Rattle.next_edits.specs.Kept.{goes_refused}
use Rattle.next_edits.proofs.kept_edit.Goals as goal

pub slice_bounds-form_of-end : goal.slice_bounds-form_of-end
slice_bounds-form_of-end c = (shaped c.args.doc.now c.args.used c.requires.table_value.1).long

pub slice_bounds-form_of-end-2 : goal.slice_bounds-form_of-end-2
slice_bounds-form_of-end-2 c = sym (length-take-le _ _ (shaped c.args.doc.now c.args.used c.requires.table_value.1).long)

pub form_of-requires : goal.form_of-requires
form_of-requires c =
    let s = shape_alone c.args.doc.now c.args.used c.requires.table_value.1 in
    search (rules, s)

pub returns-in-Err : goal.returns-in-Err
returns-in-Err c =
    let a = c.args in
    let x = c.refused.ensures ∙ ap (λ k. refusal k 0 a.used) c.number.ensures in
    record { counts_after = next_form a.operation a.place a.piece.now a.table.now a.doc.now a.used a.counts.now c.requires.table_value.0 c.requires.table_value.1 c.in-Err.refusal c.in-Err.ensures x; goes = goes_refused _ _ _ _ (refused_number c.in-Err.refusal) x }

pub kept_in_form-requires : goal.kept_in_form-requires
kept_in_form-requires c =
    record { table_value = (c.requires.table_value.0, c.requires.table_value.1); form = c.in-Ok.ensures; doc_value = c.requires.doc_value }

pub returns-in-Ok : goal.returns-in-Ok
returns-in-Ok c = c.kept_in_form.ensures
