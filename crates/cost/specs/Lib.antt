-- The children that are looked at, as the code counts them.
-- The starts and texts of the piece
pub mod Items
-- The parent's, and the piece's
pub mod Whole
