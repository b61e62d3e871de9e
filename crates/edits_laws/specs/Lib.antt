-- The five edits on the tree.
-- The tokens around a place in a tree, and the places that there are
pub mod Places
-- The piece of an edit, as a part of a tree
pub mod Pieces
