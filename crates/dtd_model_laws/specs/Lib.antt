-- Models, read by turns.
-- the reader of models with no bound to be seen
pub mod Turns
-- how many symbols and names a part has
pub mod Sizes
-- what is read behind a part, and where a part is due, in brackets that are open
pub mod Walks
