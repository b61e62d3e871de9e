-- What the code holds of the symbols of a model, and turns along the text.
pub mod Bytes
pub mod Turns
pub mod Written
