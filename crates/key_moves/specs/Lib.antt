-- What is kept of a document's IDs and references, as tokens go and come.
-- What goes and what comes, a token at a time
pub mod Moves
-- The loops
pub mod Turns
