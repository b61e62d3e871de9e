-- Characters and comments at a place of a text.
pub mod Chars
pub mod Comments
