-- The definitions of an ATTLIST: what is asked of them, and steps along the text.
pub mod Asked
pub mod Steps
pub mod Whole
