-- What the code holds of the symbols of a model.
pub mod Held
pub mod Named
