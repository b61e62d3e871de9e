-- `edit_file::put_piece` meets its contract. The loop's invariant is `Filling`. Assumes nothing.
use Rattle.edit_file.specs.Piece.{fill_more}
use Rattle.edit_file.proofs.put_piece.Goals as goal

pub loop-t-preserved : goal.loop-t-preserved
loop-t-preserved c = search (fill_more, c.in_ok-n.ensures)
