-- An element
pub mod Element
-- The elements
pub mod Elements
-- The whole
pub mod Whole
