-- `dtd_definitions::new_name` meets its contract: by its number. Assumes nothing.
use Rattle.dtd_definitions.specs.Steps.{no_name, over_limit, twice, fresh}
use borrow.Author.Rules.{rules}
use Rattle.dtd_definitions.proofs.new_name.Goals as goal

pub returns-in_err-behind : goal.returns-in_err-behind
returns-in_err-behind c = search (rules, no_name)

pub returns-then-attribute-ge-MOST_ATTRIBUTES : goal.returns-then-attribute-ge-MOST_ATTRIBUTES
returns-then-attribute-ge-MOST_ATTRIBUTES c = search (rules, over_limit)

pub returns-then-has : goal.returns-then-has
returns-then-has c = search (rules, twice)

pub returns : goal.returns
returns c = search (rules, fresh)
