-- The children that an edit looks at, counted.
pub mod Looked
pub mod Widths
pub mod EditLooked
-- A document with shape is the tokens of one element
pub mod TreeDepth
