-- `form::form_of` meets its contract. Assumes nothing.
use Rattle.std.proofs.Common.{◌≡◌, sym, ◌∙◌}
use Rattle.paper.specs.Codes.{operation_of}
use Rattle.form.specs.Form.{form_none, form_piece, form_place, form_made, shaped_few, plan_within, come_few, level_told}
use Rattle.form.proofs.form_of.Goals as goal

pub returns-in_default : goal.returns-in_default
returns-in_default c = let a = c.args in form_none a.room a.place a.piece.now a.doc.now a.operation (c.in_default.ensures)

pub returns-then-not-good_piece : goal.returns-then-not-good_piece
returns-then-not-good_piece c =
    let a = c.args in
    let eo : a.operation ≡ operation_of c.in-Ok.operation = c.in-Ok.ensures in
    search form_piece

pub returns-in_default-plan_of : goal.returns-in_default-plan_of
returns-in_default-plan_of c =
    let a = c.args in
    let eo : a.operation ≡ operation_of c.in-Ok.operation = c.in-Ok.ensures in
    form_place a.room a.place a.piece.now a.doc.now a.operation c.in-Ok.operation eo c.good_piece.ensures c.if-not-good_piece.false
    (sym c.in_default-plan_of.is ∙ c.plan_of.ensures)

pub made-requires : goal.made-requires
made-requires c =
    let a = c.args in
    let eo : a.operation ≡ operation_of c.in-Ok.operation = c.in-Ok.ensures in
    let ep = sym c.in-Some.is ∙ c.plan_of.ensures in
    let ey = c.good_piece.ensures in
    let y = c.if-not-good_piece.false in
    let s = c.requires.0 in
    record {
      few = (
        shaped_few a.doc.now s,
        plan_within a.room a.place a.piece.now a.doc.now a.operation c.in-Ok.operation eo ey y ep s,
        come_few a.room a.place a.piece.now a.doc.now a.operation c.in-Ok.operation eo ey y ep s c.coming.ensures,
      );
      len = (c.requires.1, level_told a.room a.place a.piece.now a.doc.now a.operation c.in-Ok.operation eo ey y ep s c.coming.ensures);
    }

pub returns : goal.returns
returns c =
    let a = c.args in
    let eo : a.operation ≡ operation_of c.in-Ok.operation = c.in-Ok.ensures in
    form_made a.room a.place a.piece.now a.doc.now a.operation c.in-Ok.operation eo c.good_piece.ensures c.if-not-good_piece.false
    (sym c.in-Some.is ∙ c.plan_of.ensures) _ _ c.coming.ensures c.made.ensures
