-- `dtd_before::status_behind` meets its contract: behind white space. Assumes nothing.
use Rattle.dtd_before.specs.Turns.{status_there}
use borrow.Author.Rules.{rules}
use Rattle.dtd_before.proofs.status_behind.Goals as goal

pub returns : goal.returns
returns c = search (rules, status_there)
