-- `next_edits::next_in_form` meets its contract. Assumes nothing.
use mathlib.Core.Path.{◌≡◌, sym, ap, ap₂, ◌∙◌}
use native.Mathlib.Omega.{arith}
use borrow.Author.Rules.{rules}
use lib.Seq.{length-take-le}
use Rattle.shape_laws.specs.Shaped.{shaped, shape_alone}
use Rattle.edits.specs.Outcomes.{refusal, done_with}
use Rattle.edits.proofs.Outcomes.{ready_few, ready_room, ready_long, ready_within, ready_at, ready_front, ready_comes, ready_under, ready_inner, edited_long, edited_comes}
use Rattle.next_edits.specs.Single.{next_form, next_counts, next_fault, next_done}
use Rattle.next_edits.proofs.next_in_form.Goals as goal

pub overflow_add-cut : goal.overflow_add-cut
overflow_add-cut c =
    let a = c.args in
    let f = c.requires.form in
    let sh = c.requires.table_value.1 in
    omega (arith, ready_few a.operation a.place a.piece.now a.doc.now a.used sh f, ready_within a.operation a.place a.piece.now a.doc.now a.used sh f, shaped a.doc.now a.used sh)

pub overflow_sub-cut : goal.overflow_sub-cut
overflow_sub-cut c =
    let a = c.args in
    let f = c.requires.form in
    let sh = c.requires.table_value.1 in
    ready_under a.operation a.place a.piece.now a.doc.now a.used sh f

pub carried-requires : goal.carried-requires
carried-requires c =
    let a = c.args in
    let f = c.requires.form in
    let sh = c.requires.table_value.1 in
    let s = shaped a.doc.now a.used sh in (
      c.requires.table_value.0,
      omega (arith, ready_inner a.operation a.place a.piece.now a.doc.now a.used sh f, s),
      omega (arith, ready_inner a.operation a.place a.piece.now a.doc.now a.used sh f, s),
      omega (arith, ready_within a.operation a.place a.piece.now a.doc.now a.used sh f, ready_long a.operation a.place a.piece.now a.doc.now a.used sh f),
      omega (arith, ready_within a.operation a.place a.piece.now a.doc.now a.used sh f, ready_few a.operation a.place a.piece.now a.doc.now a.used sh f),
    )

pub slice_bounds-edited-end : goal.slice_bounds-edited-end
slice_bounds-edited-end c =
    let a = c.args in
    let f = c.requires.form in
    let sh = c.requires.table_value.1 in
    sym (length-take-le _ _ (ready_long a.operation a.place a.piece.now a.doc.now a.used sh f))

pub put-requires : goal.put-requires
put-requires c = c.in-Some.ensures.0

pub commit-requires : goal.commit-requires
commit-requires c =
    let a = c.args in
    let f = c.requires.form in
    let sh = c.requires.table_value.1 in
    let s = shaped a.doc.now a.used sh in
    let l = edited_long a.operation a.place a.piece.now a.doc.now a.used sh f in
    record {
      at_in_bounds = (omega (arith, l, ready_at a.operation a.place a.piece.now a.doc.now a.used sh f), omega (arith, l, ready_room a.operation a.place a.piece.now a.doc.now a.used sh f), s.long, ready_front a.operation a.place a.piece.now a.doc.now a.used sh f);
      used_le_most_tokens = (s.few, omega (arith, l, ready_few a.operation a.place a.piece.now a.doc.now a.used sh f));
    }

pub returns-in_default : goal.returns-in_default
returns-in_default c =
    let a = c.args in
    let f = c.requires.form in
    let sh = c.requires.table_value.1 in
    next_counts a.operation a.place a.piece.now a.table.now a.doc.now a.used a.counts.now c.requires.table_value.0 sh f c.in_default.ensures c.refused.ensures

pub judged-requires : goal.judged-requires
judged-requires c =
    let a = c.args in
    let f = c.requires.form in
    let sh = c.requires.table_value.1 in
    let l = edited_long a.operation a.place a.piece.now a.doc.now a.used sh f in
    record {
      table_value = c.requires.table_value.0;
      coming_in_bounds = (omega (arith, l, ready_few a.operation a.place a.piece.now a.doc.now a.used sh f), omega (arith, l, ready_within a.operation a.place a.piece.now a.doc.now a.used sh f));
      comes = edited_comes a.operation a.place a.piece.now a.doc.now a.used sh f;
    }

pub returns-in-Err : goal.returns-in-Err
returns-in-Err c =
    let a = c.args in
    let f = c.requires.form in
    let sh = c.requires.table_value.1 in
    next_fault a.operation a.place a.piece.now a.table.now a.doc.now a.used a.counts.now c.requires.table_value.0 sh f c.in-Some.after c.in-Some.ensures c.in-Err.fault c.in-Err.ensures (c.refused-in-Err.ensures ∙ ap (λ k. refusal k c.in-Err.fault.place a.used) c.number.ensures)

pub returns-in-Ok : goal.returns-in-Ok
returns-in-Ok c =
    let a = c.args in
    let f = c.requires.form in
    let sh = c.requires.table_value.1 in
    next_done a.operation a.place a.piece.now a.table.now a.doc.now a.used a.counts.now c.requires.table_value.0 sh f c.in-Some.after c.in-Some.ensures c.in-Ok.ensures c.put.ensures c.commit.ensures.0 (c.commit.ensures.1 ∙ ap (λ n. done_with a.used n c.in-Ok.children) (edited_long a.operation a.place a.piece.now a.doc.now a.used sh f))
