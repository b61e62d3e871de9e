-- `piece_faults::moved` meets its contract. Assumes nothing.
use Rattle.piece_faults.specs.Piece.{moved_fault}
use Rattle.piece_faults.proofs.moved.Goals as goal

pub returns : goal.returns
returns c = search moved_fault
