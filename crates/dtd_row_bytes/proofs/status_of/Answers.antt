-- `dtd_row_bytes::status_of` meets its contract. Assumes nothing.
use borrow.Author.Rules.{rules}
use Rattle.dtd_row_bytes.specs.Turns.{is_required_lem, is_implied}
use Rattle.dtd_row_bytes.proofs.status_of.Goals as goal

pub returns-then-has : goal.returns-then-has
returns-then-has c = search (rules, is_required_lem)

pub returns : goal.returns
returns c = search (rules, is_implied)
