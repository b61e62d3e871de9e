-- Laws of counts ("How many panels?", item 7).
-- On the tree, after a splice, within 0 to 8,192
pub mod Laws
-- The number of an edit before it is judged
pub mod Limits
-- A set or drop moves none; an edit and its inverse leave the counts as they were
pub mod Moves
