-- `lists::go_on` meets its contract. The loop's invariant is `GoingKept`; the measure is how many numbers are left. Assumes nothing.
use mathlib.Core.Path.{◌∙◌}
use native.Mathlib.Omega.{arith}
use Rattle.lists.specs.Kept.{kept_none, kept_end, kept_within, kept_few, kept_refused, kept_next, kept_less}
use Rattle.lists.proofs.go_on.Goals as goal

pub loop-at-init : goal.loop-at-init
loop-at-init c = kept_none _ _ _ _ _ c.requires.begun c.requires.keeps c.refused-last.ensures

pub edit_at-e-requires : goal.edit_at-e-requires
edit_at-e-requires c = kept_within _ _ _ _ _ c.loop-at.invariant c.loop-at-test.true

pub kept_edit-last-requires : goal.kept_edit-last-requires
kept_edit-last-requires c =
    let g = c.loop-at.invariant in
    record { table_value = (g.table_good, g.going.shape, g.going.places); doc_value = (g.sound, g.keeps) }

pub shape_of-doc-then-last-ne-DONE : goal.shape_of-doc-then-last-ne-DONE
shape_of-doc-then-last-ne-DONE c = c.kept_edit-last.auto.doc ∙ c.loop-at.invariant.going.long

pub shape_of-new-then-last-ne-DONE : goal.shape_of-new-then-last-ne-DONE
shape_of-new-then-last-ne-DONE c = c.kept_edit-last.auto.new ∙ c.loop-at.invariant.same_new

pub shape_of-field-then-last-ne-DONE : goal.shape_of-field-then-last-ne-DONE
shape_of-field-then-last-ne-DONE c = c.kept_edit-last.auto.field ∙ c.loop-at.invariant.same_field

pub shape_of-referred-then-last-ne-DONE : goal.shape_of-referred-then-last-ne-DONE
shape_of-referred-then-last-ne-DONE c = c.kept_edit-last.auto.referred ∙ c.loop-at.invariant.same_referred

pub returns-then-last-ne-DONE : goal.returns-then-last-ne-DONE
returns-then-last-ne-DONE c =
    let g = c.loop-at.invariant in
    let h = c.loop-at-test.true in
    let o = c.edit_at-e.ensures in
    kept_refused _ _ _ _ _ g h o c.kept_edit-last.ensures.counts_after (λ z. absurd (omega (arith, c.if-last-ne-DONE.true)))

pub overflow_add-done : goal.overflow_add-done
overflow_add-done c = omega (arith, kept_few _ _ _ _ _ c.loop-at.invariant c.loop-at-test.true)

pub loop-at-smaller : goal.loop-at-smaller
loop-at-smaller c =
    let g = c.loop-at.invariant in
    let h = c.loop-at-test.true in
    let o = c.edit_at-e.ensures in
    omega (arith, kept_less _ _ _ _ _ g h o, h)

pub loop-at-preserved : goal.loop-at-preserved
loop-at-preserved c =
    let g = c.loop-at.invariant in
    let h = c.loop-at-test.true in
    let o = c.edit_at-e.ensures in
    kept_next _ _ _ _ _ g h o c.kept_edit-last.ensures.counts_after c.if-last-ne-DONE.false c.kept_edit-last.ensures.goes c.kept_edit-last.auto.doc c.kept_edit-last.auto.new c.kept_edit-last.auto.field c.kept_edit-last.auto.referred

pub shape_of-doc : goal.shape_of-doc
shape_of-doc c = c.loop-at.invariant.going.long

pub shape_of-new : goal.shape_of-new
shape_of-new c = c.loop-at.invariant.same_new

pub shape_of-field : goal.shape_of-field
shape_of-field c = c.loop-at.invariant.same_field

pub shape_of-referred : goal.shape_of-referred
shape_of-referred c = c.loop-at.invariant.same_referred

pub returns : goal.returns
returns c = search kept_end
