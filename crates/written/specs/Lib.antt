-- What a done edit writes
pub mod Written
