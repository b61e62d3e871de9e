-- The three calls of item 4: the schema file of a text, its names, and where it is refused. Assumes nothing.
use Rattle.std.specs.Prelude.{true, cond, ◌&&◌, List, ℕ, ◌-◌, leb, ltb, length}
use Rattle.paper.specs.Basics.{null}
use Rattle.paper.specs.Files.{file_of, Result, refused, made, Counted, counted}
use Rattle.paper.specs.SchemaWritten.{schema_written}
use Rattle.paper.specs.Dtd.Letters.{among}
use Rattle.paper.specs.Dtd.Declarations.{Declaration, element_names}
use Rattle.paper.specs.Dtd.Numbering.{schema_for, names_of}
use Rattle.paper.specs.Dtd.Readers.{Read, stop, ok, outside}
use Rattle.paper.specs.Dtd.Reading.{reading}

-- Item 4: "declares no element, names an undeclared one": "what is missing being found at the end". The fault of the latter is the first
-- name in the text that is declared nowhere, which a second reading meets.
abbrev pub completed : List ℕ → Read (List Declaration) → Read (List Declaration)
completed text (stop k s) = stop k s
completed text (ok ds s) = cond (null (element_names ds)) (stop outside s) (reading (λ n. among n (element_names ds)) text)

unfoldable pub declared : List ℕ → Read (List Declaration)
declared text = completed text (reading (λ n. true) text)

-- ---- the schema file and the names

-- "last, 5 for no room"; "a count that 32 bits don't hold [..] is 5"
abbrev pub roomed : List ℕ → List ℕ → Result
roomed l buffer = cond (leb (length l) (length buffer) && ltb (length l) 4294967296) (made l) (refused 5)

abbrev pub worded : (List Declaration → List ℕ) → Read (List Declaration) → List ℕ → Result
worded f (stop k s) buffer = refused k
worded f (ok ds s) buffer = roomed (f ds) buffer

-- Item 4: "The bytes are fixed by that reading"
abbrev pub schema_file : List Declaration → List ℕ
schema_file ds = file_of (schema_written (schema_for ds))

-- Item 4: "Bytes after a done file stay."
unfoldable pub import : (text buffer : List ℕ) → Counted
import text buffer = counted (worded schema_file (declared text) buffer) buffer

unfoldable pub names : (text buffer : List ℕ) → Counted
names text buffer = counted (worded names_of (declared text) buffer) buffer

-- ---- the spot

pub record Spot : Type 0 where
  pub number : ℕ
  pub offset : ℕ

-- "the number and the byte offset of what is at fault [..]. 0 at 0 for a text that is taken."
abbrev pub spot_in : List ℕ → Read (List Declaration) → Spot
spot_in text (stop k s) = record { number = k; offset = length text - length s }
spot_in text (ok ds s) = record { number = 0; offset = 0 }

unfoldable pub spot : List ℕ → Spot
spot text = spot_in text (declared text)
