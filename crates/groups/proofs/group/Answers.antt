-- `groups::group` meets its contract. Assumes nothing.
use mathlib.Core.Bool.{not}
use Rattle.shape_laws.specs.Shaped.{shaped}
use Rattle.groups.specs.Outcomes.{group_table, group_shape, group_list, group_short, group_begun, is_good}
use mathlib.Core.Path.{refl, ap}
use Rattle.working.specs.Working.{some_number}
use native.Mathlib.Omega.{arith}
use Rattle.groups.proofs.group.Goals as goal

pub returns-then-not-proper : goal.returns-then-not-proper
returns-then-not-proper c = search group_table

pub returns-then-not-shape : goal.returns-then-not-shape
returns-then-not-shape c =
    let a = c.args in
    group_shape a.table.now a.doc.now a.used a.list.now a.second.now c.proper.ensures (ap not c.if-not-proper.false) c.shape.ensures (ap not c.if-not-shape.true) c.refused-then-not-shape.ensures

pub returns-in-Err : goal.returns-in-Err
returns-in-Err c =
    let a = c.args in
    group_list a.table.now a.doc.now a.used a.list.now a.second.now c.proper.ensures (ap not c.if-not-proper.false) c.shape.ensures (ap not c.if-not-shape.false) c.in-Err.ensures (some_number c.in-Err.refusal) c.refused-in-Err.ensures

pub returns-then-second-doc : goal.returns-then-second-doc
returns-then-second-doc c =
    let a = c.args in
    group_short a.table.now a.doc.now a.used a.list.now a.second.now c.proper.ensures (ap not c.if-not-proper.false) c.shape.ensures (ap not c.if-not-shape.false) c.in_default.ensures
    refl (omega (arith, c.if-second-doc.true, (shaped a.doc.now a.used (is_good c.shape.ensures (ap not c.if-not-shape.false))).long)) c.refused-then-second-doc.ensures

pub begun-requires : goal.begun-requires
begun-requires c = (
  is_good c.proper.ensures (ap not c.if-not-proper.false),
  is_good c.shape.ensures (ap not c.if-not-shape.false),
  c.in_default.ensures,
  omega (arith, c.if-second-doc.false),
)

pub returns : goal.returns
returns c =
    let a = c.args in
    group_begun a.table.now a.doc.now a.used a.list.now a.second.now c.proper.ensures (ap not c.if-not-proper.false) c.shape.ensures (ap not c.if-not-shape.false) c.in_default.ensures c.begun.ensures
