-- Walks over a set.
-- What `connect` leaves
pub mod Joined
-- Whether the names of a set's members differ: `one_each`
pub mod Seen
-- What `next_named` answers
pub mod Named
