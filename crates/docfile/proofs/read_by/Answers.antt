-- `docfile::read_by` meets its contract: what was decoded is copied. Assumes nothing.
use borrow.Author.Rules.{rules}
use Rattle.docfile.specs.Reader.{read_refused, read_is}
use Rattle.docfile.proofs.read_by.Goals as goal

pub returns-in_err-n : goal.returns-in_err-n
returns-in_err-n c = search (read_refused, rules)

pub returns : goal.returns
returns c = search (read_is, c.in_ok-n.ensures)
