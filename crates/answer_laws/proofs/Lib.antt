-- What stands in specs/Translator is proved here.
pub mod Translator
