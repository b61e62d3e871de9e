-- An element's attributes as bytes.
-- the members of a set, upwards
pub mod Members
-- what is written of a row, and that it is what the element's ATTLISTs define
pub mod Rows
pub mod Walk
pub mod Turns
