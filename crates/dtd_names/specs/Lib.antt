-- Names by their places in the text.
pub mod Named
pub mod Spelled
pub mod Lengths
pub mod Turns
