-- The IDs and references of a document, kept from edit to edit.
-- What is an ID, or is referred to no more
pub mod Settled
-- The state that is kept, and an edit taken into it
pub mod Follow
-- A document learned
pub mod Learn
