-- Its status and value
pub mod Status
-- One attribute
pub mod Attribute
-- Several, and their sets
pub mod Attributes
