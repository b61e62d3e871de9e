-- Which sequences are lost from one content to another. What is proved stands in `Theorems` of proofs/; the definitions that it speaks of are
-- the paper's (`Inclusion`) and, for the search, those of Search and Pairs.
pub mod Order
pub mod Words
pub mod Members
pub mod Search
pub mod Invariant
pub mod Turns
pub mod Pairs
pub mod Meaning
