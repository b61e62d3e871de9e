-- The test of shape.
-- What is left of the tokens
pub mod Left
-- The turns of the scan
pub mod ScanTurns
-- What the calls answer
pub mod Answers
