-- `copying::copy` meets its contract. Assumes nothing.
use Rattle.copying.specs.Turns.{Copying}
use Rattle.copying.proofs.copy.Given as goal

abbrev pub invariant-loop-i : goal.invariant-loop-i
invariant-loop-i g l = Copying l.initial.dst l.at l.src l.from l.n l.dst l.i
