use Rattle.closing.specs.Closing.{closing_past, closing_end, closing_other}
use Rattle.closing.proofs.closing_at.Goals as goal

pub returns-then-is_start : goal.returns-then-is_start
returns-then-is_start c = search closing_past

pub returns-then-is_end : goal.returns-then-is_end
returns-then-is_end c = search closing_end

pub returns : goal.returns
returns c = search closing_other
