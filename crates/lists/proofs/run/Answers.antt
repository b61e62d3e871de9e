-- `lists::run` meets its contract. Assumes nothing.
use mathlib.Core.Path.{◌∙◌}
use native.Mathlib.Omega.{arith}
use Rattle.lists.specs.First.{first_refused, first_only, first_begun, first_more}
use borrow.Author.Rules.{rules}
use Rattle.lists.proofs.run.Goals as goal

pub shape_of-doc-then-answer-ne-DONE : goal.shape_of-doc-then-answer-ne-DONE
shape_of-doc-then-answer-ne-DONE c = c.first_edit-first.auto.doc

pub returns-then-answer-ne-DONE : goal.returns-then-answer-ne-DONE
returns-then-answer-ne-DONE c =
    let a = c.args in
    first_refused a.table.now a.doc.now a.used a.list.now a.counts.now c.requires.0 c.requires.1 c.requires.2 c.first_edit-first.ensures (λ z. absurd (omega (arith, c.if-answer-ne-DONE.true)))

pub shape_of-doc-then-list-first : goal.shape_of-doc-then-list-first
shape_of-doc-then-list-first c = c.first_edit-first.auto.doc

pub returns-then-list-first : goal.returns-then-list-first
returns-then-list-first c =
    let a = c.args in
    first_only a.table.now a.doc.now a.used a.list.now a.counts.now c.requires.0 c.requires.1 c.requires.2 c.first_edit-first.ensures c.if-answer-ne-DONE.false c.first_edit-first.auto.doc c.if-list-first.true

pub learn_and_go_on-rest-requires : goal.learn_and_go_on-rest-requires
learn_and_go_on-rest-requires c =
    let a = c.args in
    (first_begun a.table.now a.doc.now a.used a.list.now a.counts.now c.requires.0 c.requires.1 c.requires.2 c.first_edit-first.ensures c.if-answer-ne-DONE.false c.first_edit-first.auto.doc c.if-list-first.false (search rules), omega (arith, c.if-list-first.false))

pub overflow_add-done : goal.overflow_add-done
overflow_add-done c = omega (arith, c.learn_and_go_on-rest.ensures.few)

pub shape_of-doc : goal.shape_of-doc
shape_of-doc c = c.learn_and_go_on-rest.auto.doc ∙ c.first_edit-first.auto.doc

pub returns : goal.returns
returns c =
    let a = c.args in
    first_more a.table.now a.doc.now a.used a.list.now a.counts.now c.requires.0 c.requires.1 c.requires.2 c.first_edit-first.ensures c.if-answer-ne-DONE.false c.first_edit-first.auto.doc c.if-list-first.false c.learn_and_go_on-rest.ensures
