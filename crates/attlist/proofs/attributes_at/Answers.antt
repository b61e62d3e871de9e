-- `attlist::attributes_at` meets its contract. The loop's invariant is `Listing`. Assumes nothing.
use native.Mathlib.Omega.{arith}
use borrow.Author.Rules.{rules}
use Rattle.reading.specs.Ended.{handed}
use Rattle.attlist.specs.Attributes.{list_none, list_kept, list_stop, list_room, list_low, list_more, list_end}
use Rattle.attlist.proofs.attributes_at.Goals as goal

pub loop-i-init : goal.loop-i-init
loop-i-init c = search list_none

pub returns-in_err-a : goal.returns-in_err-a
returns-in_err-a c =
    rw (handed c.from_residual.ensures.1) (list_stop _ _ _ _ _ c.loop-i.invariant c.loop-i-test.true c.count_of-met.ensures _ c.in_err-a.ensures)

pub note_fixed-requires : goal.note_fixed-requires
note_fixed-requires c = list_room _ _ _ _ _ c.loop-i.invariant c.loop-i-test.true c.count_of-met.ensures _ c.in_ok-a.ensures

pub with_attribute-s-requires : goal.with_attribute-s-requires
with_attribute-s-requires c = list_low _ _ _ _ _ c.loop-i.invariant c.loop-i-test.true c.count_of-met.ensures _ c.in_ok-a.ensures

pub loop-i-preserved : goal.loop-i-preserved
loop-i-preserved c =
    list_more _ _ _ _ _ c.loop-i.invariant c.loop-i-test.true c.count_of-met.ensures _ c.in_ok-a.ensures c.note_fixed.ensures c.with_attribute-s.ensures

pub returns : goal.returns
returns c = search (list_end, arith)
