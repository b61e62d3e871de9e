use Rattle.places.specs.EndTurns.{opening_begin, opening_found, opening_turn, opening_none}
use Rattle.places.proofs.parent_of.Goals as goal

pub loop-i-init : goal.loop-i-init
loop-i-init c = search opening_begin

pub returns-then-is_start-k : goal.returns-then-is_start-k
returns-then-is_start-k c = search opening_found

pub loop-i-preserved : goal.loop-i-preserved
loop-i-preserved c = search opening_turn

pub returns : goal.returns
returns c = search opening_none
