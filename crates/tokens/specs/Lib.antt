-- Tokens by their sorts. Theorems.antt states what the tests on words tell.
pub mod Sorts
pub mod Theorems
