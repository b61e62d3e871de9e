-- What the edits go by. The laws of an outcome stand in proofs/Outcomes.antt.
-- The answer and what it leaves
pub mod Outcomes
-- What the counts are moved by
pub mod Parts
