-- The schema file of a text: rows of all elements, the file, the room for it.
pub mod Rows
pub mod Roomed
pub mod Filing
pub mod Schema
