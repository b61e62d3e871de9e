-- The schema file of declarations, from where they stand in the text.
pub mod Filed
-- one element
pub mod Elements
-- the elements in a row
pub mod Lists
pub mod Turns
pub mod Whole
