-- `doc_writer::put_bytes` meets its contract. The loop's invariant is `Storing`. Assumes nothing.
use Rattle.doc_writer.specs.Writer.{store_none, store_fits, store_more, store_end}
use Rattle.doc_writer.proofs.put_bytes.Goals as goal

pub loop-t-init : goal.loop-t-init
loop-t-init c = search store_none

pub put_number-at-requires : goal.put_number-at-requires
put_number-at-requires c = search store_fits

pub loop-t-preserved : goal.loop-t-preserved
loop-t-preserved c = search store_more

pub returns : goal.returns
returns c = search store_end
