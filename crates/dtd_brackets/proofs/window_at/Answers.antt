-- `dtd_brackets::window_at` meets its contract: a window that is not empty. Assumes nothing.
use Rattle.dtd_brackets.specs.Back.{kept}
use borrow.Author.Rules.{rules}
use Rattle.dtd_brackets.proofs.window_at.Goals as goal

pub returns : goal.returns
returns c = search (rules, kept)
