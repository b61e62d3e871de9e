-- What one element's ATTLISTs define, by attribute numbers.
pub mod Rows
pub mod More
pub mod Names
pub mod Asked
