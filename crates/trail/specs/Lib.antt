-- The sequence that led to an entry (Spells), counted and written (Write).
pub mod Entries
pub mod Spells
pub mod Write
