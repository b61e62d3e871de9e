-- `dtd_definitions::new_kind` meets its contract: by whether it is a second ID. Assumes nothing.
use Rattle.dtd_definitions.specs.Steps.{kind_failed, kind_other, kind_first, kind_second}
use borrow.Author.Rules.{rules}
use Rattle.dtd_definitions.proofs.new_kind.Goals as goal

pub returns-in_err-k : goal.returns-in_err-k
returns-in_err-k c = search (rules, kind_failed)
