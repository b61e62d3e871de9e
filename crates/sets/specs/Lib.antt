-- Words as sets of numbers: what the functions of src/ say, over the width. The laws of members stand in `paper_laws`.
-- The union of three
pub mod Union
-- The lowest member, the word without it, and the count of members
pub mod Lowest
-- `within`, `apart` and `single` as code computes them
pub mod Tests
-- The names of a set's members
pub mod Chosen
