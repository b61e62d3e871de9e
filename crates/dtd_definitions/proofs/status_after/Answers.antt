-- `dtd_definitions::status_after` meets its contract: behind white space. Assumes nothing.
use Rattle.dtd_words.specs.Words.{came_inside}
use Rattle.dtd_definitions.specs.Steps.{no_status_after, status_behind}
use borrow.Author.Rules.{rules}
use Rattle.dtd_definitions.proofs.status_after.Goals as goal

pub returns-in_err-behind : goal.returns-in_err-behind
returns-in_err-behind c = search (rules, no_status_after)

pub returns : goal.returns
returns c = search (rules, status_behind)
