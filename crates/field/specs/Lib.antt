-- Values met, as a list and as a field of bits.
pub mod Field
