-- An ATTLIST at a place of a text: its definitions one after another, and the names that are noted.
pub mod Noting
pub mod Adding
pub mod Due
pub mod Listed
