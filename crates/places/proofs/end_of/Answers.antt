use Rattle.places.specs.EndTurns.{ending_begin, ending_found, ending_turn, ending_none}
use Rattle.places.proofs.end_of.Goals as goal

pub loop-i-init : goal.loop-i-init
loop-i-init c = search ending_begin

pub returns-then-is_end-k : goal.returns-then-is_end-k
returns-then-is_end-k c = search ending_found

pub loop-i-preserved : goal.loop-i-preserved
loop-i-preserved c = search ending_turn

pub returns : goal.returns
returns c = search ending_none
