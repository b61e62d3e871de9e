-- The paper's numbers: how the code's answers read, and laws of numbers and files.
-- What stands at a place, and what is stored at one
pub mod At
pub mod Store
-- What is read was written so, and what was written is read back
pub mod Laws
-- Files of numbers that are one byte each
pub mod Small
