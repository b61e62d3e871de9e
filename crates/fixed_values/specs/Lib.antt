-- The value of an entry
pub mod Value
-- One value alone
pub mod Only
-- The attributes of an element
pub mod Kept
