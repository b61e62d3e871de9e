-- The scan of one element.
-- Its table and its steps
pub mod Scan
-- What a token makes of a phase
pub mod PhaseTurns
-- What the steps answer
pub mod Steps
