-- `edit_lines::put_edits` meets its contract. The loop's invariant is `Going`; the measure is how many bytes of the file are left. Assumes nothing.
use mathlib.Core.Path.{◌∙◌}
use native.Mathlib.Omega.{arith}
use borrow.Author.Rules.{rules}
use Rattle.edit_lines.specs.Run.{go_none, go_end, go_room, go_stop, go_halt, go_less, go_more}
use Rattle.edit_lines.proofs.put_edits.Goals as goal

pub loop-from-init : goal.loop-from-init
loop-from-init c =
    go_none c.args.table.now c.args.doc.now c.args.used c.args.counts.now c.args.file.now c.args.out.now c.args.at _ _ c.requires.3 c.requires.2 (search rules) (search rules)

pub edit_at-requires : goal.edit_at-requires
edit_at-requires c = c.loop-from.invariant.places

pub put_due_stop-requires : goal.put_due_stop-requires
put_due_stop-requires c =
    let l = c.loop-from.invariant in
    let t = c.loop-from-test.true in
    (go_halt _ _ _ _ _ _ _ l t c.in-Err.ensures, (go_room _ _ _ _ _ _ _ l t c.requires.1 c.requires.2).1)

pub returns-in-Err : goal.returns-in-Err
returns-in-Err c = go_stop _ _ _ _ _ _ _ c.loop-from.invariant c.loop-from-test.true c.in-Err.ensures c.put_due_stop.ensures

pub make-a-requires : goal.make-a-requires
make-a-requires c = omega (arith, c.in-Ok.ensures.few, c.edit_at.auto.piece, c.loop-from.invariant.places)

pub put_line-to-requires : goal.put_line-to-requires
put_line-to-requires c = go_room _ _ _ _ _ _ _ c.loop-from.invariant c.loop-from-test.true c.requires.1 c.requires.2

pub overflow_add-k : goal.overflow_add-k
overflow_add-k c = omega (arith, (go_room _ _ _ _ _ _ _ c.loop-from.invariant c.loop-from-test.true c.requires.1 c.requires.2).0)

pub loop-from-smaller : goal.loop-from-smaller
loop-from-smaller c = go_less _ _ _ _ _ _ _ c.loop-from.invariant c.loop-from-test.true c.in-Ok.ensures

pub loop-from-preserved : goal.loop-from-preserved
loop-from-preserved c =
    let l = c.loop-from.invariant in
    let d = c.make-a in
    let p = c.put_line-to.ensures in
    go_more _ _ _ _ _ _ _ l c.loop-from-test.true c.in-Ok.ensures c.requires.0 d.ensures d.auto.doc d.auto.back (c.edit_at.auto.piece ∙ l.places) p.put p.upper_bound

pub returns : goal.returns
returns c = go_end _ _ _ _ _ _ _ c.loop-from.invariant (search rules)
