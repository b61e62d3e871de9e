-- `breadth::search` meets its contract. The loop's invariant is `Going`, with the buffer as it was; the measure is how many pairs are left. Assumes nothing.
use mathlib.Core.Path.{refl, ap}
use native.Mathlib.Omega.{arith}
use lib.ListN.{length}
use Rattle.trail.specs.Entries.{met_at}
use Rattle.breadth.specs.Turn.{go_pair}
use Rattle.breadth.specs.Try.{go_started}
use Rattle.breadth.specs.Outcome.{none_lost, lost_spelled, lost_short, one_lost, not_losing}
use Rattle.breadth.proofs.search.Goals as goal

pub loop-head-init : goal.loop-head-init
loop-head-init c = (go_started c.requires.blocks, refl)

pub is_losing-requires : goal.is_losing-requires
is_losing-requires c = rw (← met_at c.loop-head.entries c.loop-head.head) (go_pair c.loop-head.invariant.0 c.loop-head-test.true)

pub spell-length-requires : goal.spell-length-requires
spell-length-requires c =
    let e = rw (← met_at c.loop-head.entries c.loop-head.head) at c.is_losing.ensures in
    lost_spelled c.loop-head.invariant.0 c.loop-head-test.true e c.if-is_losing.true _
    (omega (arith, ap length c.loop-head.invariant.1, c.requires.sequence_places_in_bounds))

pub overflow_cast-result : goal.overflow_cast-result
overflow_cast-result c =
    let e = rw (← met_at c.loop-head.entries c.loop-head.head) at c.is_losing.ensures in
    let short = lost_short c.loop-head.invariant.0 c.loop-head-test.true e c.if-is_losing.true c.spell-length.ensures in
    omega arith

pub returns-then-is_losing : goal.returns-then-is_losing
returns-then-is_losing c =
    let e = rw (← met_at c.loop-head.entries c.loop-head.head) at c.is_losing.ensures in
    one_lost c.loop-head.invariant.0 c.loop-head-test.true e c.if-is_losing.true c.spell-length.ensures _ c.loop-head.invariant.1

pub expand-tail-requires : goal.expand-tail-requires
expand-tail-requires c =
    let e = rw (← met_at c.loop-head.entries c.loop-head.head) at c.is_losing.ensures in
    not_losing c.loop-head.invariant.0 c.loop-head-test.true e c.if-is_losing.false

pub returns : goal.returns
returns c = search none_lost
