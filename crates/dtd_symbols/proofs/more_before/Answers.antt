-- `dtd_symbols::more_before` meets its contract. Assumes nothing.
use Rattle.dtd_symbols.specs.Bytes.{none_before, some_before}
use borrow.Author.Rules.{rules}
use Rattle.dtd_symbols.proofs.more_before.Goals as goal

pub returns-then-i-from : goal.returns-then-i-from
returns-then-i-from c = search (rules, none_before)

pub returns : goal.returns
returns c = search (rules, some_before)
