-- `run_edits::make` meets its contract: each file stands in its place, and one that was not read is as none. Assumes nothing.
use Rattle.run_edits.specs.Files.{all_printed}
use Rattle.run_edits.proofs.make.Goals as goal

pub returns : goal.returns
returns c =
    let a = c.args in
    all_printed a.schema.now a.doc.now a.edits.now c.was_read.ensures c.«was_read-2».ensures c.«was_read-3».ensures c.output.ensures
