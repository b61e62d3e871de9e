-- The entries that a slice holds, and one more
pub mod Held
