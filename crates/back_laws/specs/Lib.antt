-- Laws of the edit that takes an edit back (item 2).
-- The second buffer: what was written reads as the same edit
pub mod Written
-- A splice taken back; elements, texts and attributes that went or came
pub mod Splices
pub mod Items
pub mod Came
pub mod Attributes
-- The five edits: each is undone, by an edit in form
pub mod Undoes
pub mod Taken
-- The inverse is in form, and gives back every token
pub mod Back
-- The room in the second buffer
pub mod Sizes
