-- ELEMENT declarations: what a step along a text came to, and the steps of a declaration.
pub mod Steps
pub mod Heads
pub mod Elements
pub mod Stored
