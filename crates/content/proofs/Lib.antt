-- Laws that the proofs share.
pub mod Got
pub mod Modelled
