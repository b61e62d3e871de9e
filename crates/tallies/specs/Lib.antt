-- How many elements of each name start in some tokens, as a list, and its laws.
pub mod Tallies
