-- Counts, moved and written.
-- A count with what comes and what goes; the 48 of them
pub mod Moved
-- A sum that does not wrap
pub mod Sums
-- What an edit does to the counts; a fresh count
pub mod Whole
