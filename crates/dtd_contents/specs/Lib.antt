-- What stands behind an element's name, at a place of a text.
pub mod Contents
