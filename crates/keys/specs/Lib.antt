-- What the two passes over the keys do, and the fault that they find.
pub mod Marking
pub mod Turns
pub mod Looking
pub mod Answer
