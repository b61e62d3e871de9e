-- Laws of a group of edits (item 9).
-- How the edits are worked: all in form, or up to the first that is not
pub mod Worked
-- The second buffer: the last document reached, 0 up to the longest
pub mod Second
-- Every group: what is refused leaves the first buffer; both buffers keep their lengths
pub mod Kept
-- The numbers that a group answers
pub mod Numbers
