-- `proper` meets its contract. Assumes nothing.
use native.Mathlib.Omega.{arith}
use Rattle.proper.specs.Whole.{wrong_length, no_elements, many_elements, no_root, not_unused, not_fixed, table_test}
use Rattle.proper.proofs.proper.Goals as goal

pub returns-then-table-ne-TABLE_WORDS : goal.returns-then-table-ne-TABLE_WORDS
returns-then-table-ne-TABLE_WORDS c = search wrong_length

pub returns-then-elements-lt1 : goal.returns-then-elements-lt1
returns-then-elements-lt1 c = no_elements _ (omega arith)

pub returns-then-elements : goal.returns-then-elements
returns-then-elements c = many_elements _ (omega arith)

pub returns-then-table-elements : goal.returns-then-table-elements
returns-then-table-elements c = no_root _ (omega arith)

pub returns-then-not-unused_from : goal.returns-then-not-unused_from
returns-then-not-unused_from c = search not_unused

pub returns-then-not-proper_fixed : goal.returns-then-not-proper_fixed
returns-then-not-proper_fixed c = search not_fixed

pub returns : goal.returns
returns c = search table_test
