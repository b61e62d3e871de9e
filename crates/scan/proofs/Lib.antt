-- What a token makes of a phase
pub mod PhaseTurns
