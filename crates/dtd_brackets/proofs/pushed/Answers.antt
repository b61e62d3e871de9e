-- `dtd_brackets::pushed` meets its contract: a window with one more bracket. Assumes nothing.
use Rattle.dtd_brackets.specs.Windows.{opened, anew}
use borrow.Author.Rules.{rules}
use Rattle.dtd_brackets.proofs.pushed.Goals as goal

pub returns-then-window-lt-ROOM : goal.returns-then-window-lt-ROOM
returns-then-window-lt-ROOM c = search (rules, opened)

pub returns-else-window-lt-ROOM : goal.returns-else-window-lt-ROOM
returns-else-window-lt-ROOM c = search (rules, anew)
