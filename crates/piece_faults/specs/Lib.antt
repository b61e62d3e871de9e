-- The elements of a piece.
-- They have the faults that they have in the piece by itself
pub mod Alone
-- As the code has it
pub mod Piece
