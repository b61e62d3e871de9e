-- Depth.
-- The elements open at a place, and the depth of a piece
pub mod Depths
