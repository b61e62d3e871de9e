-- The splice.
-- Three copies make it
pub mod Splicing
