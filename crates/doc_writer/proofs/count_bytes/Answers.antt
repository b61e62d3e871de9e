-- `doc_writer::count_bytes` meets its contract. The loop's invariant is `Adding`. Assumes nothing.
use Prim.Native.Nat.{◌≤◌}
use native.Mathlib.Omega.{arith}
use Rattle.numbers.specs.Store.{most_wide}
use Rattle.doc_writer.specs.Writer.{add_none, add_more, add_end}
use Rattle.doc_writer.proofs.count_bytes.Goals as goal

pub loop-t-init : goal.loop-t-init
loop-t-init c = add_none _

pub overflow_add-n : goal.overflow_add-n
overflow_add-n c = let w : c.width-n.result ≤ 3 = rw c.width-n.ensures (most_wide _) in omega arith

pub loop-t-preserved : goal.loop-t-preserved
loop-t-preserved c = search add_more

pub returns : goal.returns
returns c = search add_end
