-- "The edit program": what it prints for its three files. Assumes nothing.
use Rattle.std.specs.Prelude.{Bool, false, cond, ◌&&◌, List, [], ◌∷◌, ◌++◌, map, ℕ, zero, suc, ◌+◌, ◌/◌, ◌%◌, leb, ltb, eqb, ℤ, length, take, replicate}
use Rattle.std.proofs.Math.Option.{Option, none, some}
use Rattle.paper.specs.Basics.{most_tokens, most_back, most_file, concat}
use Rattle.paper.specs.Files.{largest, Result, refused, made, Counted, counted, reading}
use Rattle.paper.specs.Schema.{Schema, Parsed, stop, ok, Reader, pure, refuse, ◌>>=◌, number, numbers, schema_of}
use Rattle.paper.specs.Rules.{Rules, of_schema}
use Rattle.paper.specs.Judgement.{Answer, checking}
use Rattle.paper.specs.Tokens.{toks}
use Rattle.paper.specs.Counts.{fresh}
use Rattle.paper.specs.Edits.{Request, Outcome, outcome, edit_by}

pub data Line : Type 0 where
  -- "prints `stop` and the number"
  halt : ℕ → Line
  -- "line number, answer, place, used length"
  line : ℕ → ℕ → ℕ → ℕ → Line

-- "(operation, place, piece count, piece)"; "1 for a file ending inside an edit, 5 for a piece count over 8,192"
unfoldable pub request : Reader Request
request = do
  op ← number 0 largest
  place ← number 0 largest
  n ← number 0 largest
  piece ← cond (leb n most_tokens) (numbers n 0 largest) (refuse 5)
  pure (record { operation = op; place = place; piece = piece })

-- Item 2: each edit is lent a second buffer, of as many places as an inverse can need
abbrev pub second : List ℕ
second = replicate most_back 0

-- "one for each edit, from 1": the lines of the edits in the bytes s. An edit is one byte or more, so `bytes`, the file's
-- length, is never too small a bound on their number.
abbrev pub edit_lines : (bytes : ℕ) → Rules → (k : ℕ) → (buffer : List ℕ) → (used : ℕ) → (counts : List ℤ) → List ℕ → List Line
edit_lines zero R k buffer used counts s = []
edit_lines (suc bytes) R k buffer used counts [] = []
edit_lines (suc bytes) R k buffer used counts (b ∷ s) = elim (request (b ∷ s)) [
  | stop n ↦ halt n ∷ []
  | ok q r ↦
      let o : Outcome = outcome buffer used second counts (edit_by R buffer used q second counts) in
      line k o.number o.place o.used ∷ edit_lines bytes R (suc k) o.buffer o.used o.counts r
]

-- "After a check that isn't 0 nothing more is printed." Item 7: the counts are "written by a check that says valid".
abbrev pub check_lines : Rules → (buffer : List ℕ) → (used : ℕ) → Answer → (edits : List ℕ) → List Line
check_lines R buffer used a edits =
    line 0 a.0 a.1 used ∷ cond (eqb a.0 0) (edit_lines (length edits) R 1 buffer used (fresh R.elements (toks (take used buffer))) edits) []

-- "The document buffer has 8,192 places."
abbrev pub places : List ℕ
places = replicate most_tokens 0

abbrev pub document_lines : Rules → Result → (edits : List ℕ) → List Line
document_lines R (refused n) edits = halt n ∷ []
document_lines R (made doc) edits =
    let o : Counted = counted (made doc) places in
    check_lines R o.buffer o.count (checking R o.buffer o.count) edits

abbrev pub schema_lines : Parsed Schema → (doc edits : List ℕ) → List Line
schema_lines (stop n) doc edits = halt n ∷ []
schema_lines (ok s r) doc edits = document_lines (of_schema s) (reading doc places) edits

-- "First, a file over 65,536 bytes or not to be opened stops with 5; then schema, document, check and edits follow in turn."
abbrev pub opened : Option (List ℕ) → Bool
opened none = false
opened (some f) = leb (length f) most_file

abbrev pub bytes_in : Option (List ℕ) → List ℕ
bytes_in none = []
bytes_in (some f) = f

unfoldable pub lines_of : (schema doc edits : Option (List ℕ)) → List Line
lines_of schema doc edits =
    cond (opened schema && opened doc && opened edits) (schema_lines (schema_of (bytes_in schema)) (bytes_in doc) (bytes_in edits)) (halt 5 ∷ [])

-- ---- the bytes

-- a number in decimal digits, at most k of them
abbrev pub digits : ℕ → ℕ → List ℕ
digits zero n = []
digits (suc k) n = cond (ltb n 10) ((48 + n) ∷ []) (digits k (n / 10) ++ ((48 + n % 10) ∷ []))

abbrev pub decimal : ℕ → List ℕ
decimal = digits 20

abbrev pub line_bytes : Line → List ℕ
line_bytes (halt n) = 115 ∷ 116 ∷ 111 ∷ 112 ∷ 32 ∷ decimal n ++ (10 ∷ [])
line_bytes (line k n p u) = decimal k ++ (32 ∷ decimal n ++ (32 ∷ decimal p ++ (32 ∷ decimal u ++ (10 ∷ []))))

unfoldable pub printed : (schema doc edits : Option (List ℕ)) → List ℕ
printed schema doc edits = concat (map line_bytes (lines_of schema doc edits))
