-- `keys::mark_ids` meets its contract. The invariants are `Going` and, of the inner loop, `Among`; the measures are how many tokens are
-- left. Assumes nothing.
use Prim.Native.Nat.{◌-◌}
use lib.ListN.{length}
use Rattle.std.specs.Prelude.{◌≡◌, None}
use Rattle.keys.specs.Turns.{Going, Among}
use Rattle.keys.proofs.mark_ids.Given as goal

abbrev pub invariant-loop-place : goal.invariant-loop-place
invariant-loop-place l = record { among : Among l.table l.doc l.initial.field l.field l.at l.i; clean : l.twice ≡ None }

abbrev pub decreases-loop-place : goal.decreases-loop-place
decreases-loop-place l = length l.doc - l.i

abbrev pub invariant-ids : goal.invariant-ids
invariant-ids l = record { going : Going l.table l.doc l.initial.at l.field l.refs l.at; clean : l.twice ≡ None }

abbrev pub decreases-ids : goal.decreases-ids
decreases-ids l = length l.doc - l.at.place
