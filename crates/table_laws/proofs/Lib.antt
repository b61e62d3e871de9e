-- Laws of schemas that were read, and of their tables: those that rest on what such a schema keeps to (specs/Accepted).
pub mod Accepted
pub mod Entries
pub mod ProperSets
pub mod ProperTable
pub mod Translated
