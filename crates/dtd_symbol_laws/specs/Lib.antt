-- The symbols of a model, written from right to left.
-- The definition, byte by byte
pub mod Machine
-- Symbols that are kept for a part
pub mod Runs
-- Models and their symbols, computed
pub mod Examples
