-- `dtd_owed::settle` meets its contract: what is kept leads to what is to be written. Assumes nothing.
use borrow.Author.Rules.{rules}
use Rattle.dtd_owed.specs.Held.{begin, none, other, more}
use Rattle.dtd_owed.proofs.settle.Goals as goal

pub loop-top-init : goal.loop-top-init
loop-top-init c = search (rules, begin)

pub returns-then-depths-top : goal.returns-then-depths-top
returns-then-depths-top c = search (rules, other)

pub loop-top-preserved : goal.loop-top-preserved
loop-top-preserved c = search (rules, more)

pub returns : goal.returns
returns c = search (rules, none)
