-- `tallies::tally` meets its contract. Assumes nothing.
use Rattle.tallies.specs.Tallies.{Tallying}
use Rattle.tallies.proofs.tally.Given as goal

abbrev pub invariant-loop-t : goal.invariant-loop-t
invariant-loop-t l = Tallying l.elements l.part l.t-index l.into
