-- Models at a place of a text: bytes, names and suffixes; where a walk stands; its turns.
pub mod Bytes
pub mod Held
pub mod Turns
pub mod PartTurns
pub mod BehindTurns
