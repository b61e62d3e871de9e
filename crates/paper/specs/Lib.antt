-- The paper ("What is to be built") as definitions that compute, in its order. Above each stands the paper's sentence. Nothing
-- here is proved but examples: laws about these definitions stand in the crates above.
-- Words for lists and numbers, and the paper's sizes
pub mod Basics
-- "Files of seven-bit groups"
pub mod Files
-- "Schema file": expressions and their meaning, ambiguity; what decides them; the file
pub mod Expressions
pub mod Sets
pub mod Matching
pub mod Schema
pub mod SchemaWritten
-- "Table"
pub mod Table
-- "Tokens and shape"
pub mod Tokens
pub mod Shape
pub mod Trees
-- "Judgement of a document": the two readings of a schema, and one judgement
pub mod Rules
pub mod Judgement
pub mod Validity
-- "The five edits", with item 2's edit that takes an edit back and item 7's counts
pub mod Requests
pub mod Back
pub mod Counts
pub mod Edits
pub mod TreeEdits
-- Item 4: DTD text
pub mod Dtd
-- Item 6: a list of edits
pub mod Lists
-- Item 9: a group of edits
pub mod Groups
-- Item 12: an element's content compared
pub mod Inclusion
-- "Answer numbers": which numbers a call gives, and what each call does
pub mod Answers
pub mod Codes
pub mod Calls
-- "The small shade": the edit program, the schema and the document
pub mod Program
pub mod Open
pub mod SmallShade
pub mod Given
-- Requests, by computing
pub mod BackExamples
pub mod CountExamples
pub mod ListExamples
pub mod GroupExamples
pub mod InclusionExamples
