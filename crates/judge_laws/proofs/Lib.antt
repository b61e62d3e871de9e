-- What rests on a statement or a definition that a wrong program changes.
-- Where an element's children stop; references
pub mod Begun
pub mod Keys
-- The judgement finds no fault exactly in the valid documents.
pub mod Judged
