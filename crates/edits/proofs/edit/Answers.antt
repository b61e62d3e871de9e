-- `edits::edit` meets its contract. Assumes nothing.
use mathlib.Core.Bool.{not}
use mathlib.Core.Path.{ap}
use Rattle.edits.proofs.Outcomes.{edit_table, edit_shape, edit_whole, is_shaped}
use Rattle.judge.specs.Check.{is_proper}
use Rattle.edits.proofs.edit.Goals as goal

pub returns-then-not-proper : goal.returns-then-not-proper
returns-then-not-proper c =
    let a = c.args in
    edit_table a.operation a.place a.piece.now a.doc.now a.used a.table.now a.back.now a.counts.now c.proper.ensures (ap not c.if-not-proper.true) c.refused.ensures

pub returns-then-not-shape : goal.returns-then-not-shape
returns-then-not-shape c =
    let a = c.args in
    edit_shape a.operation a.place a.piece.now a.doc.now a.used a.table.now a.back.now a.counts.now c.proper.ensures (ap not c.if-not-proper.false) c.shape.ensures (ap not c.if-not-shape.true) c.refused-then-not-shape.ensures

pub edit_shaped-requires : goal.edit_shaped-requires
edit_shaped-requires c =
    let a = c.args in (
      is_proper a.table.now c.proper.ensures (ap not c.if-not-proper.false),
      is_shaped a.doc.now a.used c.shape.ensures (ap not c.if-not-shape.false),
    )

pub returns : goal.returns
returns c =
    let a = c.args in
    edit_whole a.operation a.place a.piece.now a.doc.now a.used a.table.now a.back.now a.counts.now c.proper.ensures (ap not c.if-not-proper.false) c.shape.ensures (ap not c.if-not-shape.false) c.edit_shaped.ensures
