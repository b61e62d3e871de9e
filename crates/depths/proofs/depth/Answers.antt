use Rattle.depths.specs.Depths.{deepening_begin, deepening_turn, deepening_end}
use Rattle.depths.proofs.depth.Goals as goal

pub loop-t-init : goal.loop-t-init
loop-t-init c = search deepening_begin

pub loop-t-preserved : goal.loop-t-preserved
loop-t-preserved c = search deepening_turn

pub returns : goal.returns
returns c = search deepening_end
