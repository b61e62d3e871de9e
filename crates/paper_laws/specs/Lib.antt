-- Laws of what the paper's other definitions are made of.
-- Each, every, found; lists of numbers in a row and with zeros behind
pub mod Basics
-- Words as sets of numbers
pub mod Words
-- The names of a set's members
pub mod Chosen
-- The numbers of refusals; a fault before another answer
pub mod Codes
