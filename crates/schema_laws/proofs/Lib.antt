-- the readers of contents, of elements
pub mod Contents
pub mod Elements
-- which files are taken, and which are refused with 3
pub mod Taken
