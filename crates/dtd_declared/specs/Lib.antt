-- A text read twice: what is declared, and then names that are declared nowhere.
pub mod Twice
