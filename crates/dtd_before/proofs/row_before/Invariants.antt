-- `dtd_before::row_before` meets its contract: the text is left from i on. Assumes nothing.
use Prim.Native.Nat.{◌-◌, ◌≤◌}
use lib.ListN.{length, drop}
use Rattle.dtd_before.specs.Scans.{Ready, Scan}
use Rattle.dtd_before.proofs.row_before.Given as goal

abbrev pub invariant-loop-i : goal.invariant-loop-i
invariant-loop-i l = Ready l.text l.upto l.attributes × (l.i ≤ length l.text) × Scan l.text l.upto l.e (drop l.i l.text) l.row

abbrev pub decreases-loop-i : goal.decreases-loop-i
decreases-loop-i l = length l.text - l.i
