-- Laws of item 4's definitions: what a text that is taken means. `Theorems` states all that is proved of them.
-- brackets of any number of parts, and the pairs that they are turned into
pub mod Meant
pub mod Numbered
-- limits of the whole text; the schema keeps to them, and its file is read back
pub mod Whole
pub mod Formed
pub mod Bytes
pub mod Translated
pub mod Ambiguity
-- children by name and by number
pub mod Judged
pub mod ByText
-- attributes and whole documents, by the text
pub mod Attributes
pub mod Valid
-- the calls
pub mod Import
pub mod Theorems
