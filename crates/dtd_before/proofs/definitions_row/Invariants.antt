-- `dtd_before::definitions_row` meets its contract: the definitions go on at i. Assumes nothing.
use Prim.Native.Nat.{◌-◌}
use lib.ListN.{length}
use Rattle.dtd_before.specs.Scans.{Ready}
use Rattle.dtd_before.specs.Listing.{Listing}
use Rattle.dtd_before.proofs.definitions_row.Given as goal

abbrev pub invariant-loop-row : goal.invariant-loop-row
invariant-loop-row l = Ready l.text l.upto l.attributes × Listing l.text l.upto l.e l.at l.i l.row

abbrev pub decreases-loop-row : goal.decreases-loop-row
decreases-loop-row l = length l.text - l.i
