-- Validity and the judgement. What is proved stands in proofs/Judged.antt; where content stops, in `Begun` and `ByRun`.
pub mod Connectives
pub mod Attributes
pub mod Contents
pub mod Values
pub mod Stands
pub mod Keys
pub mod Stops
pub mod Begun
pub mod ByRun
pub mod Children
