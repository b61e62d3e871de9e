-- `lists::first_edit` meets its contract. Assumes nothing.
use Rattle.lists.specs.First.{first_of, first_within}
use Rattle.lists.proofs.first_edit.Goals as goal

pub edit_at-e-requires : goal.edit_at-e-requires
edit_at-e-requires c =
    let a = c.args in
    first_within a.table.now a.doc.now a.used a.list.now a.counts.now c.requires.0 c.requires.1 c.requires.2

pub next_edit-answer-requires : goal.next_edit-answer-requires
next_edit-answer-requires c = (c.requires.0, c.requires.1, c.requires.3)

pub shape_of-doc : goal.shape_of-doc
shape_of-doc c = c.next_edit-answer.auto.doc

pub shape_of-new : goal.shape_of-new
shape_of-new c = c.next_edit-answer.auto.new

pub returns : goal.returns
returns c = first_of _ _ _ _ _ c.edit_at-e.ensures c.next_edit-answer.ensures
