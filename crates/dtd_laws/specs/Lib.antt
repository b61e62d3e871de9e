-- Laws of item 4's definitions: what the readers take. `dtd_schema_laws` goes on from here.
-- readers that take exactly what is spelled: the notion, and production by production
pub mod Exact
pub mod Leaves
pub mod Words
pub mod Comments
pub mod Models
pub mod Contents
pub mod Attributes
pub mod Texts
-- two readings of one text are equal; which texts are taken; with what numbers others are refused
pub mod Unique
pub mod Taken
pub mod Refusals
-- limits one after another; names in lists
pub mod Kept
pub mod Names
