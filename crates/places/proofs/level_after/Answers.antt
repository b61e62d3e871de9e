use Rattle.places.specs.EndTurns.{level_up, level_down, level_same}
use Rattle.places.proofs.level_after.Goals as goal

pub returns-then-is_start : goal.returns-then-is_start
returns-then-is_start c = search level_up

pub returns-then-is_end : goal.returns-then-is_end
returns-then-is_end c = search level_down

pub returns : goal.returns
returns c = search level_same
