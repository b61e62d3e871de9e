-- What the questions about one place go by, and their laws.
-- The token at a place, and the item there
pub mod Items
-- The end of one element, and the parent of one place
pub mod EndTurns
