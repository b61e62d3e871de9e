-- What the contracts of `input_files` cite.
-- A file as the system answered
pub mod Files
