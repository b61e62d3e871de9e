-- The names of a content model.
-- The names among its symbols are those of its occurrences
pub mod Listed
