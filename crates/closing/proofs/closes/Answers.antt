use Rattle.std.proofs.Common.{◌≤◌, length, arith}
use Rattle.closing.specs.ClosingTurns.{closing_none, closing_turn, closing_all, closing_low}
use Rattle.closing.proofs.closes.Goals as goal

pub loop-p-init : goal.loop-p-init
loop-p-init c = search closing_none

pub overflow_cast-out : goal.overflow_cast-out
overflow_cast-out c =
    let a = c.args in
    let h : c.closing_at-e.result ≤ length a.doc.now = search closing_low in
    omega arith

pub loop-p-preserved : goal.loop-p-preserved
loop-p-preserved c = search closing_turn

pub returns : goal.returns
returns c = search closing_all
