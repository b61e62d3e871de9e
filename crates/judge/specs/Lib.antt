-- What a judgement goes by, and its laws.
-- One element, and the first fault among elements
pub mod Elements
-- The root, and the whole check
pub mod Check
