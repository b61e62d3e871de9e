-- The place of an edit.
-- The place, and the splice there
pub mod Plan
