-- The five edits on the tree.
-- The tokens around a place are the tree's
pub mod Places
-- A splice at a place in a tree
pub mod Splices
-- The children that an edit looks at
pub mod Looked
-- .. where an item comes
pub mod ItemLooked
-- An edit makes the tokens of the tree that the edit rules make
pub mod Edited
