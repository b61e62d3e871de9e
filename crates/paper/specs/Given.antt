-- "Answer numbers": every number that a call can give is given. Some inputs for each call, and what it answers to them in turn.
-- Assumes nothing.
use Rattle.std.specs.Prelude.{◌≡◌, refl, List, [], ◌∷◌, map, ℕ, ℤ, pos, length, replicate}
use Rattle.paper.specs.Basics.{sequence_places}
use Rattle.paper.specs.Files.{file_of, read, write}
use Rattle.paper.specs.Schema.{Schema, Parsed, stop, ok, schema_of}
use Rattle.paper.specs.Table.{table_length, table_of, translate}
use Rattle.paper.specs.Judgement.{check}
use Rattle.paper.specs.Counts.{elements_of}
use Rattle.paper.specs.Edits.{Request, edit}
use Rattle.paper.specs.Inclusion.{compare}
use Rattle.paper.specs.Dtd.Letters.{ascii}
use Rattle.paper.specs.Dtd.Imported.{import, names, spot}
use Rattle.paper.specs.Answers.{reader_answers, writer_answers, translator_answers, check_answers, edit_answers, elements_answers, compare_answers}
use Rattle.paper.specs.Answers.{import_answers, names_answers, spot_answers}
use Rattle.paper.specs.Open.{all_open}
use Rattle.paper.specs.SmallShade.{shade_with, shade, small, second, counts}

-- nothing; a number that goes on; a token for which there is no place
pub reader_gives : map (λ file. (read file []).number) ([] ∷ (128 ∷ []) ∷ (1 ∷ []) ∷ []) ≡ reader_answers
unfolding all_open
reader_gives = refl

-- nothing; a token too large; a byte for which there is no room
pub writer_gives : map (λ tokens. (write tokens []).number) ([] ∷ (2097152 ∷ []) ∷ (1 ∷ []) ∷ []) ≡ writer_answers
unfolding all_open
writer_gives = refl

-- the shade; no number; no elements; `a?,a` as the shade's model; no table
abbrev pub translations : List (List ℕ × List ℕ)
translations =
    let table : List ℕ = replicate table_length 0 in
    (file_of shade, table) ∷ ([], table) ∷ (0 ∷ [], table) ∷ (file_of (shade_with (0 ∷ 2 ∷ 6 ∷ 6 ∷ [])), table) ∷ (file_of shade, []) ∷ []

pub translator_gives : map (λ (i : List ℕ × List ℕ). (translate i.0 i.1).0) translations ≡ translator_answers
unfolding all_open
translator_gives = refl

-- the shade's table
abbrev table_in : Parsed Schema → List ℕ
table_in (stop k) = []
table_in (ok s r) = table_of s

abbrev table : List ℕ
table = table_in (schema_of (file_of shade))

-- the shade; no tokens; a panel with no ID; a shade with no panel; a panel as root; one ID twice; a reference to none; no table
abbrev pub documents : List (List ℕ × List ℕ)
documents =
    (table, small)
    ∷ (table, [])
    ∷ (table, 1 ∷ 4 ∷ 61 ∷ 9 ∷ 2 ∷ 2 ∷ [])
    ∷ (table, 1 ∷ 4 ∷ 61 ∷ 2 ∷ [])
    ∷ (table, 9 ∷ 12 ∷ 165 ∷ 2 ∷ [])
    ∷ (table, 1 ∷ 4 ∷ 61 ∷ 9 ∷ 12 ∷ 165 ∷ 2 ∷ 9 ∷ 12 ∷ 165 ∷ 2 ∷ 2 ∷ [])
    ∷ (table, 1 ∷ 4 ∷ 61 ∷ 9 ∷ 12 ∷ 165 ∷ 2 ∷ 25 ∷ 20 ∷ 173 ∷ 2 ∷ 2 ∷ [])
    ∷ ([], small)
    ∷ []

-- "A whole check never gives 7"
pub check_gives : map (λ (i : List ℕ × List ℕ). (check i.0 i.1 (length i.1)).0) documents ≡ check_answers
unfolding all_open
check_gives = refl

-- an edit of a whole buffer, and the counts beside it
pub record Asked : Type 0 where
  pub table : List ℕ
  pub doc : List ℕ
  pub request : Request
  pub counts : List ℤ

-- with a count of n for each name
abbrev asks : (n : ℕ) → (table doc : List ℕ) → ℕ → ℕ → List ℕ → Asked
asks n table doc op at piece =
    record { table = table; doc = doc; request = record { operation = op; place = at; piece = piece }; counts = replicate 48 (pos n) }

-- Buffers that the document fills, and second buffers with room. The use removed; no tokens; a panel for which there is no room; no
-- operation; "an edit under [..] an undeclared element of an invalid document"; an ID dropped; the only panel removed; a panel as root; one
-- ID twice; a reference to none; no table; the use removed where none is counted
abbrev pub requests : List Asked
requests =
    asks 1 table small 2 10 []
    ∷ asks 1 table [] 2 10 []
    ∷ asks 1 table small 1 10 (9 ∷ 12 ∷ 173 ∷ 2 ∷ [])
    ∷ asks 1 table small 0 10 []
    ∷ asks 1 table (1 ∷ 4 ∷ 61 ∷ 33 ∷ 3 ∷ 2 ∷ 2 ∷ []) 2 4 []
    ∷ asks 1 table small 5 3 (12 ∷ [])
    ∷ asks 1 table small 2 3 []
    ∷ asks 1 table small 3 0 (9 ∷ 12 ∷ 165 ∷ 2 ∷ [])
    ∷ asks 1 table small 3 10 (9 ∷ 12 ∷ 165 ∷ 2 ∷ [])
    ∷ asks 1 table small 3 3 (9 ∷ 12 ∷ 173 ∷ 2 ∷ [])
    ∷ asks 1 [] small 2 10 []
    ∷ asks 0 table small 2 10 []
    ∷ []

pub edit_gives : map (λ (x : Asked). (edit x.table x.doc (length x.doc) x.request second x.counts).number) requests ≡ edit_answers
unfolding all_open
edit_gives = refl

-- the shade's counts; no table; a count above 8,192
abbrev pub questions : List (List ℕ × List ℤ)
questions = (table, counts) ∷ ([], counts) ∷ (table, pos 8193 ∷ []) ∷ []

pub elements_gives : map (λ (i : List ℕ × List ℤ). (elements_of i.0 i.1 1).0) questions ≡ elements_answers
unfolding all_open
elements_gives = refl

-- old table, new table, element and sequence buffer: the shade with use* for its model, which loses a panel; no buffer; no such
-- element, no buffer; no old table, no such element; the row, which is text, no buffer
abbrev pub comparisons : List (List ℕ × List ℕ × ℕ × List ℕ)
comparisons =
    let new : List ℕ = table_in (schema_of (file_of (shade_with (3 ∷ 8 ∷ [])))) in
    (table, new, 0, replicate sequence_places 0) ∷ (table, new, 0, []) ∷ (table, new, 4, []) ∷ ([], new, 4, []) ∷ (table, new, 2, []) ∷ []

pub compare_gives : map (λ (i : List ℕ × List ℕ × ℕ × List ℕ). (compare i.0 i.1 i.2 i.3).number) comparisons ≡ compare_answers
unfolding all_open
compare_gives = refl

-- an element
abbrev one : List ℕ
one = ascii "<!ELEMENT a EMPTY>"

-- an attribute of kind ID beside another
abbrev two_ids : List ℕ
two_ids = ascii "<!ATTLIST a x ID #IMPLIED y ID #IMPLIED>"

-- text and buffer: an element; a second ID; an element, and no buffer; no element
abbrev pub texts : List (List ℕ × List ℕ)
texts = (one, 0 ∷ 0 ∷ 0 ∷ 0 ∷ []) ∷ (two_ids, []) ∷ (one, []) ∷ ([], []) ∷ []

pub import_gives : map (λ (i : List ℕ × List ℕ). (import i.0 i.1).number) texts ≡ import_answers
unfolding all_open
import_gives = refl

pub names_gives : map (λ (i : List ℕ × List ℕ). (names i.0 i.1).number) texts ≡ names_answers
unfolding all_open
names_gives = refl

pub spot_gives : map (λ text. (spot text).number) (one ∷ two_ids ∷ [] ∷ []) ≡ spot_answers
unfolding all_open
spot_gives = refl
