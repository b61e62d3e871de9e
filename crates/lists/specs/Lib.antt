-- What a list of edits comes to, and the laws that its loop goes by.
-- The answer and what it leaves
pub mod Outcomes
-- The edits of a list, one after another
pub mod Going
-- .. with what is kept of IDs and references
pub mod Kept
-- The first edit, and those behind it
pub mod First
