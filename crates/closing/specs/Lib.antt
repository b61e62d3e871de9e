-- Matching ends.
-- The place of the end for every place
pub mod Closing
-- The turns of the loop that writes them
pub mod ClosingTurns
