-- `dtd_file::put_elements` meets its contract: what is left to put is the elements from the j-th on. Assumes nothing.
use borrow.Author.Rules.{rules}
use Prim.Native.Nat.{◌-◌}
use Rattle.dtd_file.specs.Turns.{begun, ready, again, all}
use Rattle.dtd_file.proofs.put_elements.Goals as goal

pub loop-j-init : goal.loop-j-init
loop-j-init c = search (rules, begun)

pub put_element-next-requires : goal.put_element-next-requires
put_element-next-requires c = search (rules, ready)

pub loop-j-preserved : goal.loop-j-preserved
loop-j-preserved c =
    again _ _ _ _ _ _ _ _ _ c.loop-j.invariant c.loop-j-test.true _ c.row_at-row.ensures _ _ c.put_element-next.ensures

pub returns : goal.returns
returns c = search (rules, all)
