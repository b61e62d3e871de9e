-- The calls, each by the outcome that it has for what it is given: an outcome is the answer and every place of lent memory
-- after the call. The contracts of the calls are written with these names. Assumes nothing.
use Rattle.std.specs.Prelude.{◌≡◌, List, ℕ, ℤ}
use Rattle.paper.specs.Files.{Counted, read, write}
use Rattle.paper.specs.Table.{translate}
use Rattle.paper.specs.Judgement.{Answer, check}
use Rattle.paper.specs.Counts.{checked_counts, elements_of}
use Rattle.paper.specs.Edits.{Request, Outcome, edit}
use Rattle.paper.specs.Lists.{Listed, edit_list}
use Rattle.paper.specs.Groups.{GroupOutcome, group}
use Rattle.paper.specs.Inclusion.{Compared, compare}
use Rattle.paper.specs.Dtd.Imported.{Spot, import, names, spot}

-- the reader: number, count, and the token buffer
abbrev pub Reads : (file buffer : List ℕ) → Counted → Type 0
Reads file buffer o = o ≡ read file buffer

-- the writer: number, count, and the byte buffer
abbrev pub Writes : (tokens buffer : List ℕ) → Counted → Type 0
Writes tokens buffer o = o ≡ write tokens buffer

-- the translator: number, and the table
abbrev pub Translates : (file table : List ℕ) → ℕ × List ℕ → Type 0
Translates file table o = o ≡ translate file table

-- the check: number and place, and the counts
abbrev pub Checks : (table buffer : List ℕ) → (used : ℕ) → (counts : List ℤ) → Answer × List ℤ → Type 0
Checks table buffer used counts o = o ≡ (check table buffer used, checked_counts table buffer used counts)

-- the edit: number, place, used length, change in length, children looked at, the buffer, the second one and the counts
abbrev pub Performs : (table buffer : List ℕ) → (used : ℕ) → Request → (second : List ℕ) → (counts : List ℤ) → Outcome → Type 0
Performs table buffer used q second counts o = o ≡ edit table buffer used q second counts

-- the question: number and count; it is lent nothing to write to
abbrev pub Tells : (table : List ℕ) → (counts : List ℤ) → (name : ℕ) → ℕ × ℕ → Type 0
Tells table counts name o = o ≡ elements_of table counts name

-- the list of edits: what the last edit that was run came to, with no second buffer, and how many were done
abbrev pub PerformsList : (table buffer : List ℕ) → (used : ℕ) → (list : List ℕ) → (counts : List ℤ) → Listed Outcome → Type 0
PerformsList table buffer used list counts o = o ≡ edit_list table buffer used list counts

-- the group: number, place, used length, change in length, which edit was refused, the buffer and the second one
abbrev pub PerformsGroup : (table buffer : List ℕ) → (used : ℕ) → (list second : List ℕ) → GroupOutcome → Type 0
PerformsGroup table buffer used list second o = o ≡ group table buffer used list second

-- the comparison: number, 1 for yes, length of the sequence that is lost, and the sequence buffer
abbrev pub Compares : (old new : List ℕ) → (element : ℕ) → (buffer : List ℕ) → Compared → Type 0
Compares old new element buffer o = o ≡ compare old new element buffer

-- the importer: number, count, and the schema file's buffer
abbrev pub Imports : (text buffer : List ℕ) → Counted → Type 0
Imports text buffer o = o ≡ import text buffer

-- the names of a text: number, count, and their buffer
abbrev pub Names : (text buffer : List ℕ) → Counted → Type 0
Names text buffer o = o ≡ names text buffer

-- where a text is refused: number and offset; it is lent nothing to write to
abbrev pub Spots : List ℕ → Spot → Type 0
Spots text o = o ≡ spot text
