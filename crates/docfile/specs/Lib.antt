-- Document files: how the calls' answers read, what the passes of the reader do, and what is proved of both calls.
-- The outcome of a call, and a list laid over a buffer
pub mod Outcome
-- The passes of the reader
pub mod Reader
-- What both calls promise
pub mod Done
pub mod Theorems
