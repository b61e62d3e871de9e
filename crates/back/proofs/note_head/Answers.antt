-- `back::note_head` meets its contract. Assumes nothing.
use native.Mathlib.Omega.{arith}
use lib.ListN.{length-set}
use Rattle.back.specs.Noted.{head_put}
use Rattle.back.proofs.note_head.Goals as goal

pub bounds-second-1 : goal.bounds-second-1
bounds-second-1 c = omega (arith, length-set c.args.second.now 0 c.args.operation, c.requires.0)

pub returns : goal.returns
returns c = search head_put
