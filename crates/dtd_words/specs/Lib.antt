-- Places of a text, and turns of the loops along it.
pub mod Places
pub mod Words
