use Rattle.places.specs.EndTurns.{back_up, back_down, back_same}
use Rattle.places.proofs.back.Goals as goal

pub returns-then-is_end : goal.returns-then-is_end
returns-then-is_end c = search back_up

pub returns-then-is_start : goal.returns-then-is_start
returns-then-is_start c = search back_down

pub returns : goal.returns
returns c = search back_same
