-- `doc_writer::all_small` meets its contract. The loop's invariant is `Seeking`. Assumes nothing.
use Rattle.doc_writer.specs.Writer.{seek_none, seek_more, seek_end}
use Rattle.doc_writer.proofs.all_small.Goals as goal

pub loop-t-init : goal.loop-t-init
loop-t-init c = seek_none _

pub loop-t-preserved : goal.loop-t-preserved
loop-t-preserved c = search seek_more

pub returns : goal.returns
returns c = search seek_end
