-- Which numbers each call can give. Judged says which a judgement gives; NeverSeven that the judgement of a whole document never
-- gives 7.
pub mod ShapeParts
pub mod ReaderWriter
pub mod Translator
pub mod Judged
pub mod NeverSeven
pub mod Check
pub mod Edit
pub mod Compare
pub mod Import
