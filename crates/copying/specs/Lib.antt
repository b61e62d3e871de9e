-- What a copy leaves
pub mod Left
-- The loop, a turn at a time
pub mod Turns
