-- `dtd_comments::comment_end` meets its contract: the comment goes on at i. Assumes nothing.
use Prim.Native.Nat.{◌-◌}
use lib.ListN.{length}
use Rattle.dtd_comments.specs.Comments.{Going}
use Rattle.dtd_comments.proofs.comment_end.Given as goal

abbrev pub invariant-loop-at : goal.invariant-loop-at
invariant-loop-at l = Going l.text l.at l.i

abbrev pub decreases-loop-at : goal.decreases-loop-at
decreases-loop-at l = length l.text - l.i
