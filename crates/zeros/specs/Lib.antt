-- What a loop over words has still to read
pub mod Rest
-- The union of words
pub mod Union
