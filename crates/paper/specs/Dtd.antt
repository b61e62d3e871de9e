-- Item 4 ("DTD files as they come"), in the order to read it.
-- bytes, names and the words of a DTD text
pub mod Letters
-- what a text declares, as data
pub mod Declarations
-- which children a model of the text describes, over names
pub mod Meaning
-- which texts spell which declarations: XML 1.0's productions, cut down to the subset
pub mod Grammar
-- declarations as numbers: the schema, and the list of names
pub mod Numbering
-- the reader, with what it refuses and where
pub mod Readers
pub mod Reading
pub mod Limits
-- the three calls
pub mod Imported
pub mod Examples
