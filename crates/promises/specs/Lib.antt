-- The promises: the calls by their contracts, and what is promised of them. The proofs are in proofs/.
pub mod Calls
pub mod Right
pub mod Statements
-- Item 4: what is promised
pub mod Dtd
-- Item 12: what is promised
pub mod Inclusion
-- Item 2: what is promised
pub mod Undo
-- Item 6: what is promised
pub mod Lists
-- Item 7: what is promised
pub mod Counts
-- Item 8: what is promised
pub mod Fixed
-- Item 9: what is promised
pub mod Groups
-- Item 10: what is promised
pub mod Cost
