-- `fixed::may_fix` meets its contract. Assumes nothing.
use Rattle.fixed.specs.Entry.{past_all, may_test}
use Rattle.fixed.proofs.may_fix.Goals as goal

pub returns-then-a : goal.returns-then-a
returns-then-a c = search past_all

pub returns : goal.returns
returns c = search may_test
