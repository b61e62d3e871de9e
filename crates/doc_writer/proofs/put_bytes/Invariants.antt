-- `doc_writer::put_bytes` meets its contract. The loop's invariant is `Storing`. Assumes nothing.
use Rattle.doc_writer.specs.Writer.{Storing}
use Rattle.doc_writer.proofs.put_bytes.Given as goal

abbrev pub invariant-loop-t : goal.invariant-loop-t
invariant-loop-t l = Storing l.tokens l.initial.file l.at l.t-index l.file
