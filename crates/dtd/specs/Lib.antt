-- What the three calls leave.
pub mod Outcomes
