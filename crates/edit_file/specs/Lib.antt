-- The piece of an edit
pub mod Piece
-- An edit
pub mod Request
