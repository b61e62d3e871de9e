-- Content models and Glushkov's sets. What is proved stands in proofs/Theorems; the definitions that it speaks of are the paper's
-- (Expressions, Sets, Matching, Schema) and, for the automaton, those of Walk and Run.
pub mod Names
pub mod Meaning
pub mod Symbols
pub mod Rename
pub mod Marked
pub mod Within
pub mod Walk
pub mod Useful
pub mod Matching
pub mod Ambiguity
pub mod Below
pub mod Run
pub mod Words
