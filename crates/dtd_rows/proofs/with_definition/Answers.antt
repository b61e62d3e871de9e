-- `dtd_rows::with_definition` meets its contract: each set with the attribute in it, or not. Assumes nothing.
use borrow.Author.Rules.{rules}
use Rattle.dtd_rows.specs.Rows.{with_made}
use Rattle.dtd_rows.proofs.with_definition.Goals as goal

pub returns : goal.returns
returns c = search (rules, with_made)
