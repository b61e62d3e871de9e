-- `dtd_attributes::definitions_at` meets its contract: the definitions go on at i. Assumes nothing.
use mathlib.Core.Path.{◌≡◌}
use Prim.Native.Nat.{◌-◌}
use lib.ListN.{length}
use Rattle.dtd_attributes.specs.Adding.{Adding}
use Rattle.dtd_attributes.proofs.definitions_at.Given as goal

abbrev pub invariant-loop-attributes : goal.invariant-loop-attributes
invariant-loop-attributes l = Adding l.text l.upto l.e l.at l.attributes l.n l.i l.row × (length l.attributes ≡ length l.initial.attributes)

abbrev pub decreases-loop-attributes : goal.decreases-loop-attributes
decreases-loop-attributes l = length l.text - l.i
