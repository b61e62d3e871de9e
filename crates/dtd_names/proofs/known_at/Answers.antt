-- `dtd_names::known_at` meets its contract. Assumes nothing.
use borrow.Author.Rules.{rules}
use Rattle.dtd_names.specs.Turns.{known}
use Rattle.dtd_names.proofs.known_at.Goals as goal

pub returns-in-Some : goal.returns-in-Some
returns-in-Some c = search (rules, known)
