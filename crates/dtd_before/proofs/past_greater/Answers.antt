-- `dtd_before::past_greater` meets its contract: no `>` stands before i. Assumes nothing.
use Rattle.dtd_before.specs.Turns.{ahead_begun, ahead_none, ahead_found, ahead_more}
use borrow.Author.Rules.{rules}
use Rattle.dtd_before.proofs.past_greater.Goals as goal

pub loop-i-init : goal.loop-i-init
loop-i-init c = search (rules, ahead_begun)

pub returns-then-text-i-eq62 : goal.returns-then-text-i-eq62
returns-then-text-i-eq62 c = search (rules, ahead_found)

pub loop-i-preserved : goal.loop-i-preserved
loop-i-preserved c = search (rules, ahead_more)

pub returns : goal.returns
returns c = search (rules, ahead_none)
