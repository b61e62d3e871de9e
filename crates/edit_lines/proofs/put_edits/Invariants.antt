-- `edit_lines::put_edits` meets its contract. The loop's invariant is `Going`; the measure is how many bytes of the file are left. Assumes nothing.
use Prim.Native.Nat.{◌-◌}
use lib.ListN.{length}
use Rattle.edit_lines.specs.Run.{Going}
use Rattle.edit_lines.proofs.put_edits.Given as goal

abbrev pub invariant-loop-from : goal.invariant-loop-from
invariant-loop-from l = Going l.table l.initial.doc l.used l.initial.counts l.file l.initial.out l.at l.doc l.out l.piece l.back l.counts l.held l.from l.k l.to

abbrev pub decreases-loop-from : goal.decreases-loop-from
decreases-loop-from l = length l.file - l.from
