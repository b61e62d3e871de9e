-- The loops that count: values from a place on, and tokens before an attribute
pub mod Counts
