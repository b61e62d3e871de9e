-- The run of edits
pub mod Run
