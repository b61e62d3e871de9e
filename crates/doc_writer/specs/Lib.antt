-- The writer of document files.
-- Its passes
pub mod Writer
