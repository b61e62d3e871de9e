-- "The small shade", and fixed attributes.
-- The cases marked P and the four models, and that they hold
pub mod Cases
-- Item 8, by a schema of its own
pub mod Fixed
