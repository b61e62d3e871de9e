-- What a reader comes to at a place of the file; several one after another
pub mod Ended
-- One number
pub mod Number
