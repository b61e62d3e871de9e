-- `counts::moved_all` meets its contract. Assumes nothing.
use Rattle.counts.specs.Moved.{Moving}
use Rattle.counts.proofs.moved_all.Given as goal

abbrev pub invariant-loop-e : goal.invariant-loop-e
invariant-loop-e l = Moving l.counts l.goes l.comes l.after l.e
