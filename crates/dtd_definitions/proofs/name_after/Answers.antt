-- `dtd_definitions::name_after` meets its contract: behind white space. Assumes nothing.
use Rattle.dtd_words.specs.Words.{came_inside}
use Rattle.dtd_definitions.specs.Steps.{no_name_after, name_behind}
use borrow.Author.Rules.{rules}
use Rattle.dtd_definitions.proofs.name_after.Goals as goal

pub returns-in_err-behind : goal.returns-in_err-behind
returns-in_err-behind c = search (rules, no_name_after)

pub returns : goal.returns
returns c = search (rules, name_behind)
