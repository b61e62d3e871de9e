-- `pieces::good_piece` meets its contract. Assumes nothing.
use Rattle.pieces.specs.Pieces.{piece_long, piece_inserted, piece_removed, piece_replaced, piece_set, piece_dropped}
use Rattle.pieces.proofs.good_piece.Goals as goal

pub returns-then-piece-gt-MOST_TOKENS : goal.returns-then-piece-gt-MOST_TOKENS
returns-then-piece-gt-MOST_TOKENS c = search piece_long

pub returns-in-Insert : goal.returns-in-Insert
returns-in-Insert c = search piece_inserted

pub returns-in-Remove : goal.returns-in-Remove
returns-in-Remove c = search piece_removed

pub returns-in-Replace : goal.returns-in-Replace
returns-in-Replace c = search piece_replaced

pub returns-in-Set : goal.returns-in-Set
returns-in-Set c = search piece_set

pub returns-in-Drop : goal.returns-in-Drop
returns-in-Drop c = search piece_dropped
