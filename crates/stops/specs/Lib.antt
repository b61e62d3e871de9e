-- Where the children of one element stop.
-- Token by token
pub mod Stop
-- Texts alone
pub mod Texts
