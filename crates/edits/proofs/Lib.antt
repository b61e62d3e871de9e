-- The laws of an edit's outcome
pub mod Outcomes
