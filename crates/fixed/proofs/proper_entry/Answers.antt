-- `fixed::proper_entry` meets its contract. Assumes nothing.
use borrow.Author.Rules.{rules}
use Rattle.fixed.specs.Entry.{block_in, no_element, entry_test}
use Rattle.fixed.proofs.proper_entry.Goals as goal

pub returns-then-e-table : goal.returns-then-e-table
returns-then-e-table c = search no_element

pub bounds-b-1 : goal.bounds-b-1
bounds-b-1 c = search (block_in, rules)

pub bounds-b-2 : goal.bounds-b-2
bounds-b-2 c = search (block_in, rules)

pub bounds-b-3 : goal.bounds-b-3
bounds-b-3 c = search (block_in, rules)

pub bounds-b-4 : goal.bounds-b-4
bounds-b-4 c = search (block_in, rules)

pub bounds-b-5 : goal.bounds-b-5
bounds-b-5 c = search (block_in, rules)

pub returns : goal.returns
returns c = search entry_test
