-- `doc_writer::count_bytes` meets its contract. The loop's invariant is `Adding`. Assumes nothing.
use Rattle.doc_writer.specs.Writer.{Adding}
use Rattle.doc_writer.proofs.count_bytes.Given as goal

abbrev pub invariant-loop-t : goal.invariant-loop-t
invariant-loop-t l = Adding l.tokens l.t-index l.n
