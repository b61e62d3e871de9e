-- A fault that is met in a DTD text stays, whatever follows. `Theorems` states it.
-- the notion, and reader by reader
pub mod Stays
pub mod Leaves
pub mod Models
pub mod Texts
pub mod Theorems
