-- Laws of token lists. Ends has turns of loops; Bridge goes from numbers to tokens; Phases to Five say what an edit leaves as it was; Tree
-- says that shape is a tree (proofs/TreeDepth.antt); EditJudged says what follows for judging an edit; Looked and Widths, with
-- proofs/Looked.antt to proofs/EditLooked.antt, count the children that it looks at.
pub mod Ends
pub mod Bridge
pub mod Local
pub mod Phases
pub mod Keep
pub mod Splice
pub mod Slots
pub mod Attrs
pub mod Depth
pub mod Touch
pub mod Five
pub mod Tree
pub mod TreeDepth
pub mod EditJudged
pub mod Looked
pub mod Widths
-- A document with shape in its buffer; what a done edit writes there
pub mod Shaped
pub mod Written
