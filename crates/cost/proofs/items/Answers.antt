-- `cost::items` meets its contract. The loop's invariant is `Tallying`. Assumes nothing.
use mathlib.Core.Bool.{◌||◌}
use native.Mathlib.Omega.{arith}
use Rattle.depths.specs.Depths.{one_le}
use Rattle.cost.specs.Items.{tallying_begin, tallying_turn, tallying_out}
use Rattle.cost.proofs.items.Goals as goal

pub loop-t-init : goal.loop-t-init
loop-t-init c = search tallying_begin

pub overflow_add-n : goal.overflow_add-n
overflow_add-n c = omega (arith, one_le (c.is_start.result || c.is_text.result))

pub loop-t-preserved : goal.loop-t-preserved
loop-t-preserved c = search tallying_turn

pub returns : goal.returns
returns c = search tallying_out
