-- The brackets of a model that are open at a place: what they are, the innermost of them as one number, and how they are found from behind.
pub mod Stacks
pub mod Windows
pub mod Separators
pub mod Back
