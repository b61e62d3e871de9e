-- What was declared before a place of a DTD text.
pub mod Paths
pub mod Ends
pub mod Turns
pub mod Scans
pub mod Defining
pub mod Listing
