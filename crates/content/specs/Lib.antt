-- Content models read from their symbols. What the contracts cite stands in Parts and Model.
-- Which expression symbols begin with
pub mod Front
-- Follow sets in a list of words
pub mod Linked
-- The reader of an expression, of a model
pub mod Parts
pub mod Model
-- One outcome for one input
pub mod Theorems
