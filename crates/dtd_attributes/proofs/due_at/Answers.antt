-- `dtd_attributes::due_at` meets its contract: white space, and what stands behind it. Assumes nothing.
use Rattle.dtd_attributes.specs.Due.{due_not, due_here}
use borrow.Author.Rules.{rules}
use Rattle.dtd_attributes.proofs.due_at.Goals as goal

pub returns-then-white_here : goal.returns-then-white_here
returns-then-white_here c = search (rules, due_here)

pub returns : goal.returns
returns c = search (rules, due_not)
