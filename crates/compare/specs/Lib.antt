-- What the call answers: its outcome (Outcome), and its refusals in order (Call).
pub mod Outcome
pub mod Call
