-- Which files are schemas, and which meet an ambiguous model. What is proved stands in proofs/Taken.
-- Readers that take exactly what is written, and stop with 3 exactly where it says
pub mod Written
-- the readers of numbers, of things in a row; what is said of contents, of elements
pub mod Rows
pub mod Contents
pub mod Elements
-- the test for ambiguity, and what it means
pub mod Unambiguous
