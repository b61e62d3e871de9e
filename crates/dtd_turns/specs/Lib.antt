-- One turn along a text: what it stands on, and what it comes to.
pub mod Standing
pub mod Ways
