-- `schema::put_elements` meets its contract. The loop's invariant is `Laying`. Assumes nothing.
use borrow.Author.Rules.{rules}
use Rattle.reading.specs.Ended.{handed}
use Rattle.schema.specs.Elements.{lay_none, lay_room, lay_zeros, lay_same, lay_fixed, lay_left, lay_stop, lay_more, lay_kept, lay_end}
use Rattle.schema.proofs.put_elements.Goals as goal

pub loop-i-init : goal.loop-i-init
loop-i-init c = search lay_none

pub slice_bounds-put_element-end : goal.slice_bounds-put_element-end
slice_bounds-put_element-end c = search lay_room

pub put_element-requires : goal.put_element-requires
put_element-requires c = search (lay_zeros, rules)

pub returns-in_err-place : goal.returns-in_err-place
returns-in_err-place c =
    rw (handed c.from_residual.ensures.1) (lay_stop _ _ _ _ c.loop-i.invariant c.requires.1 c.loop-i-test.true _ c.in_err-place.ensures)

pub loop-i-preserved : goal.loop-i-preserved
loop-i-preserved c = search (lay_more, c.in_ok-place.ensures)

pub returns : goal.returns
returns c = search (lay_end, rules)
