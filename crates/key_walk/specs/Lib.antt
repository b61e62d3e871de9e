-- Which attributes are IDs and references, and a walk from key to key.
pub mod Kinds
pub mod Walk
