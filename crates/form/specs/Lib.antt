-- What the form of an edit goes by, and its laws.
-- The result and its size
pub mod Size
-- All of it, in the paper's order
pub mod Form
