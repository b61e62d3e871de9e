-- `dtd_owed::owe` meets its contract. Assumes nothing.
use Rattle.dtd_owed.specs.Held.{owes}
use borrow.Author.Rules.{rules}
use Rattle.dtd_owed.proofs.owe.Goals as goal

pub returns : goal.returns
returns c = search (rules, owes)
