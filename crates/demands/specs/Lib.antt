-- The demands of the library's calls, and the edit program's output (proved in proofs/).
pub mod Shrikes
pub mod Theorems
pub mod Output
pub mod Example
