-- `fixed::proper_entries` meets its contract. The loop's invariant is `Testing`. Assumes nothing.
use borrow.Author.Rules.{rules}
use Rattle.fixed.specs.Entry.{next_fits}
use Rattle.fixed.specs.Entries.{testing_none, not_next, testing_more, testing_all}
use Rattle.fixed.proofs.proper_entries.Goals as goal

pub loop-i-init : goal.loop-i-init
loop-i-init c = search testing_none

pub returns-then-not-next_proper : goal.returns-then-not-next_proper
returns-then-not-next_proper c = search not_next

pub overflow_add-low : goal.overflow_add-low
overflow_add-low c = search (next_fits, rules)

pub loop-i-preserved : goal.loop-i-preserved
loop-i-preserved c = search testing_more

pub returns : goal.returns
returns c = search testing_all
