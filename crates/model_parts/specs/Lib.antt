-- The parts of a content model.
-- The whole from its parts
pub mod Parts
