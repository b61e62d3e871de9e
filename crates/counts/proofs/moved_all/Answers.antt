-- `counts::moved_all` meets its contract. Assumes nothing.
use mathlib.Core.Path.{◌≡◌, sym, ap, ◌∙◌}
use lib.IntN.{pos, ◌+ℤ◌, ◌-ℤ◌}
use lib.ListN.{get_or}
use mir.Syntax.{w32}
use mir.Val.{to_z, of_z}
use Rattle.std.proofs.Common.{Option, Some, None, arith}
use Rattle.counts.specs.Moved.{within, few_each, moving_begin, moving_turn, moving_stop, moving_end}
use borrow.Author.Rules.{rules}
use Rattle.counts.proofs.moved_all.Goals as goal

pub loop-e-init : goal.loop-e-init
loop-e-init c = search (rules, moving_begin)

pub moved_one-requires : goal.moved_one-requires
moved_one-requires c = search (rules, few_each)

pub returns-in_err-after : goal.returns-in_err-after
returns-in_err-after c =
    let a = c.args in
    let l = c.loop-e in
    let v : c.moved_one.result ≡ within (to_z w32 (of_z w32 (get_or a.counts.now l.e (pos 0))) +ℤ pos (get_or a.comes.now l.e 0) -ℤ pos (get_or a.goes.now l.e 0)) = c.moved_one.ensures in
    let t : to_z w32 (of_z w32 (get_or a.counts.now l.e (pos 0))) ≡ get_or a.counts.now l.e (pos 0) = search rules in
    rw c.from_residual.ensures
    (moving_stop a.counts.now a.goes.now a.comes.now {e = l.e} (omega arith) c.in_err-after.was
    (v ∙ ap (λ z. within (z +ℤ pos (get_or a.comes.now l.e 0) -ℤ pos (get_or a.goes.now l.e 0))) t))

pub loop-e-preserved : goal.loop-e-preserved
loop-e-preserved c =
    let a = c.args in
    let l = c.loop-e in
    let v : c.moved_one.result ≡ within (to_z w32 (of_z w32 (get_or a.counts.now l.e (pos 0))) +ℤ pos (get_or a.comes.now l.e 0) -ℤ pos (get_or a.goes.now l.e 0)) = c.moved_one.ensures in
    let t : to_z w32 (of_z w32 (get_or a.counts.now l.e (pos 0))) ≡ get_or a.counts.now l.e (pos 0) = search rules in
    moving_turn a.counts.now a.goes.now a.comes.now l.invariant (omega arith) c.in_ok-after.was
    (v ∙ ap (λ z. within (z +ℤ pos (get_or a.comes.now l.e 0) -ℤ pos (get_or a.goes.now l.e 0))) t)

pub returns : goal.returns
returns c = moving_end _ _ _ c.loop-e.invariant c.loop-e-test.false c.loop-e.auto.e-end
