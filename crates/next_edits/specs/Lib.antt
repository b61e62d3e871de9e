-- One edit of a list.
-- What it comes to
pub mod Single
-- What is kept after it
pub mod Kept
