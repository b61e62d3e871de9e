-- Kinds and statuses at a place of a text.
pub mod Kinds
