-- `lists::learn_and_go_on` meets its contract. Assumes nothing.
use Rattle.kept_keys.specs.Learn.{empty_zeros}
use Rattle.lists.specs.Kept.{begun_long, begun_part, begun_few, part_begun, part_ended}
use borrow.Author.Rules.{rules}
use Rattle.lists.proofs.learn_and_go_on.Goals as goal

pub slice_bounds-learn-end : goal.slice_bounds-learn-end
slice_bounds-learn-end c = search begun_long

pub slice_bounds-learn-end-2 : goal.slice_bounds-learn-end-2
slice_bounds-learn-end-2 c = search begun_part

pub learn-requires : goal.learn-requires
learn-requires c = (search rules, search begun_few, empty_zeros)

pub go_on-requires : goal.go_on-requires
go_on-requires c =
    let a = c.args in
    record { begun = part_begun a.table.now a.doc.now a.used a.list.now a.from c.requires.0; keeps = c.learn.ensures }

pub shape_of-doc : goal.shape_of-doc
shape_of-doc c = c.go_on.auto.doc

pub shape_of-new : goal.shape_of-new
shape_of-new c = c.go_on.auto.new

pub returns : goal.returns
returns c =
    let a = c.args in
    part_ended a.table.now a.doc.now a.used a.list.now a.from c.go_on.ensures
