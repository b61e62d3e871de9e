-- The passes over the children of one element.
-- From a child to the next
pub mod Closed
-- A model
pub mod Model
-- By the kind of the element
pub mod Content
