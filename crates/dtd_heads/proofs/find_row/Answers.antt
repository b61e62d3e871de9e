-- `dtd_heads::find_row` meets its contract: in the table, or in the text. Assumes nothing.
use Rattle.dtd_heads.specs.After.{found_fits, found_kept, found_none}
use borrow.Author.Rules.{rules}
use Rattle.dtd_heads.proofs.find_row.Goals as goal

pub slice_bounds-find_name-end : goal.slice_bounds-find_name-end
slice_bounds-find_name-end c = search (rules, found_fits)

pub returns-then-h-many : goal.returns-then-h-many
returns-then-h-many c = search (rules, found_kept)

pub returns-then-many-lt-MOST_ELEMENTS : goal.returns-then-many-lt-MOST_ELEMENTS
returns-then-many-lt-MOST_ELEMENTS c = search (rules, found_none)
