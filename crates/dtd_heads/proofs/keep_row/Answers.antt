-- `dtd_heads::keep_row` meets its contract: by whether there is room, and whether the name is new. Assumes nothing.
use mathlib.Core.Logic.{inl, inr}
use borrow.Author.Rules.{rules}
use Rattle.dtd_heads.proofs.keep_row.Goals as goal

pub returns-then-h-ge-MOST_ELEMENTS : goal.returns-then-h-ge-MOST_ELEMENTS
returns-then-h-ge-MOST_ELEMENTS c = inl (search rules)

pub returns-then-h-many : goal.returns-then-h-many
returns-then-h-many c = inr (inl (search rules))

pub returns : goal.returns
returns c = inr (inr (search rules))
