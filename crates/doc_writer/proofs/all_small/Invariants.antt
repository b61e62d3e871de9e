-- `doc_writer::all_small` meets its contract. The loop's invariant is `Seeking`. Assumes nothing.
use Rattle.doc_writer.specs.Writer.{Seeking}
use Rattle.doc_writer.proofs.all_small.Given as goal

abbrev pub invariant-loop-t : goal.invariant-loop-t
invariant-loop-t l = Seeking l.tokens l.t-index l.fine
