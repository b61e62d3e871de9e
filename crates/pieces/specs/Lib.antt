-- The piece of an edit.
-- What the code tells of it is what the paper asks
pub mod Pieces
