-- The law of kept keys, and for the five edits
pub mod Kept
pub mod Edits
-- As code tests it
pub mod Walks
