-- `dtd_before::kind_of` meets its contract: behind the name and white space. Assumes nothing.
use Rattle.dtd_before.specs.Turns.{kind_behind}
use borrow.Author.Rules.{rules}
use Rattle.dtd_before.proofs.kind_of.Goals as goal

pub returns : goal.returns
returns c = search (rules, kind_behind)
