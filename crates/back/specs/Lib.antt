-- The inverse of an edit, told by where the edit cuts and how much
pub mod Noted
