-- The symbols of a model
pub mod Symbols
-- The model, as three calls read and test it
pub mod Together
-- The model in its block
pub mod Model
-- The content, of any kind
pub mod Content
