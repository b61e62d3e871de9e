-- Laws of lists of edits.
-- The split is exact: which lists are edits, and which have which fault
pub mod Exactly
-- The single calls that a list is, of any kind
pub mod Singles
-- What the call for a list comes to
pub mod Listed
