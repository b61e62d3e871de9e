-- The list of names: counted, and put into a buffer.
pub mod Lists
pub mod Lengths
pub mod Puts
