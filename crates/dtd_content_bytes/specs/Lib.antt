-- An element's content as bytes.
-- which of the three kinds stands there
pub mod Kinds
-- the numbers of a model are one byte each
pub mod Symbols
pub mod Models
pub mod Contents
