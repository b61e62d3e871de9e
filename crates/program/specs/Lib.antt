-- Schema, document and check, in turn
pub mod Stages
