-- Bytes in a buffer from a place on
pub mod Put
pub mod Putting
-- The bytes of lines
pub mod Lines
