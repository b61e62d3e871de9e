-- `pairs::run_of` meets its contract. Assumes nothing.
use borrow.Author.Rules.{rules}
use Rattle.pairs.specs.Number.{run_lost, run_start, run_read}
use Rattle.pairs.proofs.run_of.Goals as goal

pub returns-then-n-eq0 : goal.returns-then-n-eq0
returns-then-n-eq0 c = search (rules, run_lost)

pub returns-then-n-eq1 : goal.returns-then-n-eq1
returns-then-n-eq1 c = search (rules, run_start)

pub returns : goal.returns
returns c = search (rules, run_read)
