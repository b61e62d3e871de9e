-- The table of the rows of elements that ATTLISTs named.
pub mod Heads
pub mod Keeping
pub mod After
