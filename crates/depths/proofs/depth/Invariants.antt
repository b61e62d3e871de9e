use Rattle.depths.specs.Depths.{Deepening}
use Rattle.depths.proofs.depth.Given as goal

abbrev pub invariant-loop-t : goal.invariant-loop-t
invariant-loop-t l = Deepening l.piece l.t-index l.k l.most
