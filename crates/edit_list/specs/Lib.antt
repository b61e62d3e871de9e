-- The edit at a place of a list
pub mod Places
-- The list's own fault
pub mod Faults
-- The edits that are left from a place on
pub mod Left
