-- The test on words and names, and that it is the paper's test for ambiguity
pub mod Unambiguous
