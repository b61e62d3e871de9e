-- `dtd_models::close_at` meets its contract: the last bracket, or another. Assumes nothing.
use Rattle.dtd_models.specs.BehindTurns.{closed_last, closed_more}
use borrow.Author.Rules.{rules}
use Rattle.dtd_models.proofs.close_at.Goals as goal

pub returns-then-p-eq1 : goal.returns-then-p-eq1
returns-then-p-eq1 c = search (rules, closed_last)

pub returns : goal.returns
returns c = search (rules, closed_more)
