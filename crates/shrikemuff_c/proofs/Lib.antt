-- Contracts says what the contracts allow.
pub mod Contracts
