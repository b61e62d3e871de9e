-- `run_edits::print` is safe: the bytes that are made lie in the buffer. Assumes nothing.
use Rattle.lines.specs.Put.{put_fits, put_counts}
use Rattle.run_edits.proofs.print.Goals as goal

pub slice_bounds-out-end : goal.slice_bounds-out-end
slice_bounds-out-end g c = put_fits c.make-n.ensures

pub slice_bounds-write_all-end : goal.slice_bounds-write_all-end
slice_bounds-write_all-end g c = put_counts c.make-n.ensures
