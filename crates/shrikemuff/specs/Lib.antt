-- What the host library's contracts cite. Assumes nothing.
pub mod Outcomes
pub mod Version
