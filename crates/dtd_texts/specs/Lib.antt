-- Declarations of a text, one after another: turns of the loop.
pub mod Whole
pub mod Turns
