-- The pass over the attributes of one element.
pub mod Attributes
