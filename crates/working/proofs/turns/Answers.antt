-- `working::turns` meets its contract. The loop's invariant is `Working`; the measure is how many numbers are left. Assumes nothing.
use mathlib.Core.Path.{refl, ◌∙◌}
use native.Mathlib.Omega.{arith}
use borrow.Author.Rules.{rules}
use Rattle.working.specs.Working.{working_none, working_room, working_within, working_shape, working_end, working_edit, working_few, working_refused, working_next, working_less}
use Rattle.working.proofs.turns.Goals as goal

pub loop-at-init : goal.loop-at-init
loop-at-init c =
    let a = c.args in
    (working_none a.second.now a.room a.used a.list.now c.requires.0 c.requires.1 c.requires.2 c.requires.3, refl, refl)

pub edit_at-e-requires : goal.edit_at-e-requires
edit_at-e-requires c =
    let a = c.args in
    working_edit a.second.now a.room a.used a.list.now c.requires.0 c.requires.1 c.requires.2 _ _ _ _ c.loop-at.invariant.0 (omega (arith, c.loop-at-test.true))

pub overflow_add-begun : goal.overflow_add-begun
overflow_add-begun c =
    let a = c.args in
    omega (arith, working_few a.second.now a.room a.used a.list.now c.requires.0 c.requires.1 c.requires.2 _ _ _ _ c.loop-at.invariant.0 (omega (arith, c.loop-at-test.true)))

pub turn-requires : goal.turn-requires
turn-requires c =
    let a = c.args in
    let w = c.loop-at.invariant.0 in
    (working_room a.second.now a.room a.used a.list.now c.requires.0 c.requires.1 c.requires.2 _ _ _ _ w, working_within a.second.now a.room a.used a.list.now c.requires.0 c.requires.1 c.requires.2 _ _ _ _ w, working_shape a.second.now a.room a.used a.list.now c.requires.0 c.requires.1 c.requires.2 _ _ _ _ w, c.loop-at.invariant.2 ∙ c.requires.4)

pub returns-in-Err : goal.returns-in-Err
returns-in-Err c =
    let a = c.args in
    working_refused a.second.now a.room a.used a.list.now c.requires.0 c.requires.1 c.requires.2 _ _ _ _ c.loop-at.invariant.0 (omega (arith, c.loop-at-test.true)) c.edit_at-e.ensures c.in-Err.refusal c.in-Err.ensures

pub loop-at-smaller : goal.loop-at-smaller
loop-at-smaller c =
    let a = c.args in
    working_less a.second.now a.room a.used a.list.now c.requires.0 c.requires.1 c.requires.2 _ _ _ _ c.loop-at.invariant.0 (omega (arith, c.loop-at-test.true)) c.edit_at-e.ensures

pub loop-at-preserved : goal.loop-at-preserved
loop-at-preserved c =
    let a = c.args in
    let l = c.loop-at.invariant in
    (working_next a.second.now a.room a.used a.list.now c.requires.0 c.requires.1 c.requires.2 _ _ _ _ c.loop-at.invariant.0 (omega (arith, c.loop-at-test.true)) c.edit_at-e.ensures c.in-Ok.ensures, search rules, search rules)

pub returns : goal.returns
returns c =
    let a = c.args in
    working_end a.second.now a.room a.used a.list.now c.requires.0 c.requires.1 c.requires.2 _ _ _ _ c.loop-at.invariant.0 c.loop-at-test.false
