-- Laws of schemas and tables. What is proved stands in proofs/Translated.
pub mod Readers
pub mod Parts
pub mod Blocks
pub mod Accepted
pub mod Entries
pub mod SameRules
pub mod ProperSets
pub mod ProperTable
