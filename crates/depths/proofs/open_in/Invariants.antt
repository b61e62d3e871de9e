use Rattle.depths.specs.Depths.{Opened}
use Rattle.depths.proofs.open_in.Given as goal

abbrev pub invariant-loop-t : goal.invariant-loop-t
invariant-loop-t l = Opened l.front l.t-index l.starts l.ends
