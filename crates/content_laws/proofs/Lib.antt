-- Content models and Glushkov's sets: what is proved of the definitions in specs/. All of it stands in `Theorems`.
pub mod Walk
pub mod Seq
pub mod Alt
pub mod Star
pub mod Glushkov
pub mod Useful
pub mod Matching
pub mod Begins
pub mod Ambiguity
pub mod Decide
pub mod Run
pub mod Theorems
