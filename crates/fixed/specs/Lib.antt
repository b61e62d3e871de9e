-- Where entries stand
pub mod Places
-- One entry
pub mod Entry
-- All entries, and the count
pub mod Entries
