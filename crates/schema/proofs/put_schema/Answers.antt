-- `schema::put_schema` meets its contract: one law for each way out. Assumes nothing.
use native.Mathlib.Omega.{arith}
use borrow.Author.Rules.{rules}
use Rattle.reading.specs.Ended.{handed}
use Rattle.schema.specs.Whole.{schema_count, schema_root, head_put, head_count, head_root, schema_elements, schema_leftover, schema_put}
use Rattle.schema.proofs.put_schema.Goals as goal

pub returns-in_err-n : goal.returns-in_err-n
returns-in_err-n c = rw (handed c.from_residual.ensures.1) (schema_count _ _ (omega arith) _ c.in_err-n.ensures)

pub returns-in_err-root : goal.returns-in_err-root
returns-in_err-root c = rw (handed c.from_residual-in_err-root.ensures.1) (schema_root _ c.in_ok-n.ensures _ (omega arith) _ c.in_err-root.ensures)

pub put_elements-requires : goal.put_elements-requires
put_elements-requires c = (c.in_ok-root.ensures.within, c.in_ok-n.ensures.high, head_put _ _ c.requires.0, c.requires.1)

pub returns-in_err-next : goal.returns-in_err-next
returns-in_err-next c =
    rw (handed c.from_residual-in_err-next.ensures.1) (schema_elements _ c.in_ok-n.ensures c.in_ok-root.ensures _ c.in_err-next.ensures)

pub returns-then-next-file : goal.returns-then-next-file
returns-then-next-file c = schema_leftover _ c.in_ok-n.ensures c.in_ok-root.ensures c.in_ok-next.ensures (omega arith)

pub returns : goal.returns
returns c =
    let n = c.in_ok-n.n.value in
    let root = c.in_ok-root.root.value in
    schema_put _ c.in_ok-n.ensures c.in_ok-root.ensures c.in_ok-next.ensures (omega arith) (head_count n root c.requires.0) (head_root n root c.requires.0)
