-- A table's blocks, and the run of a block's model.
pub mod Block
pub mod Run
pub mod Step
-- One outcome for one input
pub mod Theorems
