-- The proofs: `Theorems` has what is proved, in one place.
pub mod Turns
pub mod Found
pub mod Pairs
pub mod Tables
pub mod Theorems
