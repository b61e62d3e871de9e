-- The check that writes counts, and the question.
pub mod Checked
