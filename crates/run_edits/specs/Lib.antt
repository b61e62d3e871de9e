-- The edit program: what the contracts of `run_edits` cite, and a law of it.
-- What a file as the system answered counts as
pub mod Files
