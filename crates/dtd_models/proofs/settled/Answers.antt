-- `dtd_models::settled` meets its contract: past white space. Assumes nothing.
use Rattle.dtd_models.specs.Turns.{white}
use borrow.Author.Rules.{rules}
use Rattle.dtd_models.proofs.settled.Goals as goal

pub returns : goal.returns
returns c = search (rules, white)
