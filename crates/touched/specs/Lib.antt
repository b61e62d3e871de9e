-- The judgement of an edited document at what is touched.
-- The parent, and the piece
pub mod Touched
-- The root and the elements; IDs and references after them
pub mod Judged
