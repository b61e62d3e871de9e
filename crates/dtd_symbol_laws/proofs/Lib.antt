-- A model that is spelled comes to its symbols
pub mod Runs
