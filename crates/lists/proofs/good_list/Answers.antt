-- `lists::good_list` meets its contract. Assumes nothing.
use mathlib.Core.Bool.{not}
use mathlib.Core.Path.{refl, ap}
use Rattle.lists.specs.Outcomes.{first_table, first_shape}
use Rattle.edits.proofs.Outcomes.{is_shaped}
use Rattle.judge.specs.Check.{is_proper}
use Rattle.lists.proofs.good_list.Goals as goal

pub returns-then-not-proper : goal.returns-then-not-proper
returns-then-not-proper c =
    let a = c.args in
    first_table a.table.now a.doc.now a.used a.list.now a.counts.now c.requires refl c.proper.ensures (ap not c.if-not-proper.true) c.none_done.ensures

pub returns-then-not-shape : goal.returns-then-not-shape
returns-then-not-shape c =
    let a = c.args in
    first_shape a.table.now a.doc.now a.used a.list.now a.counts.now c.requires refl c.proper.ensures (ap not c.if-not-proper.false) c.shape.ensures (ap not c.if-not-shape.true) c.none_done-then-not-shape.ensures

pub run-requires : goal.run-requires
run-requires c =
    let a = c.args in (
      is_proper a.table.now c.proper.ensures (ap not c.if-not-proper.false),
      is_shaped a.doc.now a.used c.shape.ensures (ap not c.if-not-shape.false),
      c.requires,
    )
