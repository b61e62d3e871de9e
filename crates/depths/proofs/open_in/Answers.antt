use Rattle.std.proofs.Common.{arith}
use Rattle.depths.specs.Depths.{opened_begin, opened_turn, opened_all, one_le}
use Rattle.depths.proofs.open_in.Goals as goal

pub loop-t-init : goal.loop-t-init
loop-t-init c = search opened_begin

pub overflow_add-starts : goal.overflow_add-starts
overflow_add-starts c = omega (arith, one_le c.is_start.result)

pub overflow_add-ends : goal.overflow_add-ends
overflow_add-ends c = omega (arith, one_le c.is_end.result)

pub loop-t-preserved : goal.loop-t-preserved
loop-t-preserved c = search opened_turn

pub returns : goal.returns
returns c = search opened_all
