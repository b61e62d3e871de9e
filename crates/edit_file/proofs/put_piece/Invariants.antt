-- `edit_file::put_piece` meets its contract. The loop's invariant is `Filling`. Assumes nothing.
use lib.ListN.{length}
use Rattle.edit_file.specs.Piece.{Filling}
use Rattle.edit_file.proofs.put_piece.Given as goal

abbrev pub invariant-loop-t : goal.invariant-loop-t
invariant-loop-t l = Filling l.file l.initial.piece l.at (length l.initial.piece) l.t-index l.from l.piece
