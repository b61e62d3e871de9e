-- `dtd_models::begun_at` meets its contract: a bracket opens the model. Assumes nothing.
use Rattle.dtd_models.specs.Turns.{begun}
use borrow.Author.Rules.{rules}
use Rattle.dtd_models.proofs.begun_at.Goals as goal

pub returns : goal.returns
returns c = search (rules, begun)
