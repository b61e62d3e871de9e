-- The judgement of an edited document by what is kept of its IDs and references.
-- The edit, as what is kept asks for it
pub mod Edit
-- What the judgement gives
pub mod Judged
