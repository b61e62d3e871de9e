-- `edit_list::list_fault` meets its contract. The loop's invariant is `Begun`; the measure is how many numbers are left. Assumes nothing.
use native.Mathlib.Omega.{arith}
use Rattle.edit_list.specs.Faults.{empty_fault, begun_none, begun_end, begun_over, begun_broken, begun_within, begun_next, begun_less}
use Rattle.edit_list.proofs.list_fault.Goals as goal

pub returns-then-list-eq0 : goal.returns-then-list-eq0
returns-then-list-eq0 c = search empty_fault

pub loop-at-init : goal.loop-at-init
loop-at-init c = search begun_none

pub returns-then-begun-eq-MOST_EDITS : goal.returns-then-begun-eq-MOST_EDITS
returns-then-begun-eq-MOST_EDITS c = begun_over _ _ _ c.loop-at.invariant c.loop-at-test.true (omega (arith, c.if-begun-eq-MOST_EDITS.true))

pub returns-then-not-whole_at : goal.returns-then-not-whole_at
returns-then-not-whole_at c = search begun_broken

pub edit_at-e-requires : goal.edit_at-e-requires
edit_at-e-requires c = search begun_within

pub loop-at-smaller : goal.loop-at-smaller
loop-at-smaller c = search begun_less

pub loop-at-preserved : goal.loop-at-preserved
loop-at-preserved c = search begun_next

pub returns : goal.returns
returns c = search begun_end
