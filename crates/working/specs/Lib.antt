-- The edits of a group, worked on a second buffer, turn by turn
pub mod Working
