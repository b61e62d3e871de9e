-- The test of a table, part by part.
pub mod Attributes
pub mod Model
pub mod Block
pub mod Whole
