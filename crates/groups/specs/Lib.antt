-- A group's answer and both buffers
pub mod Outcomes
