-- `dtd_symbols::symbol_for` meets its contract. Assumes nothing.
use borrow.Author.Rules.{rules}
use Rattle.dtd_symbols.specs.Bytes.{no_symbol}
use Rattle.dtd_symbols.proofs.symbol_for.Goals as goal

pub returns-in_default : goal.returns-in_default
returns-in_default c = search (rules, no_symbol)
