-- `dtd_attributes::greater_after` meets its contract: behind white space. Assumes nothing.
use Rattle.dtd_attributes.specs.Due.{greater_there}
use borrow.Author.Rules.{rules}
use Rattle.dtd_attributes.proofs.greater_after.Goals as goal

pub returns : goal.returns
returns c = search (rules, greater_there)
