-- The search through pairs as the code makes it: where it stands (Going), its turns (Turn, Try), and what it answers (Outcome).
pub mod Going
pub mod Turn
pub mod Try
pub mod Outcome
