-- "The small shade": its schema and its document, and some documents by computing. The cases marked P, as one list with one statement
-- over it, stand in the crate `small_shade`. Assumes nothing.
use Rattle.std.specs.Prelude.{◌≡◌, refl, Bool, true, false, ◌&&◌, List, [], ◌∷◌, ◌++◌, ℕ, eqb, ℤ, pos, length, replicate}
use Rattle.paper.specs.Basics.{all, concat}
use Rattle.paper.specs.Files.{file_of}
use Rattle.paper.specs.Schema.{Schema, Parsed, stop, ok, schema_of}
use Rattle.paper.specs.Table.{table_of}
use Rattle.paper.specs.Rules.{of_schema}
use Rattle.paper.specs.Judgement.{Answer, checking, check}
use Rattle.paper.specs.Edits.{Request, outcome, edit_by, edit}
use Rattle.paper.specs.Open.{all_open}

-- "Schema numbers: `4 0  2 5 0 4 6 3 8 1 0 0 0  2 2 3 7 1 1 1 0  1 0  0 1 2 2 0`." Here with any symbols for the shade's model.
abbrev pub shade_with : List ℕ → List ℕ
shade_with symbols =
    4 ∷ 0
    ∷ 2 ∷ length symbols ∷ symbols
    ++ (1 ∷ 0 ∷ 0 ∷ 0
    ∷ 2 ∷ 2 ∷ 3 ∷ 7 ∷ 1 ∷ 1 ∷ 1 ∷ 0
    ∷ 1 ∷ 0
    ∷ 0 ∷ 1 ∷ 2 ∷ 2 ∷ 0 ∷ [])

abbrev pub shade : List ℕ
shade = shade_with (0 ∷ 4 ∷ 6 ∷ 3 ∷ 8 ∷ [])

abbrev pub small : List ℕ
small = 1 ∷ 4 ∷ 61 ∷ 9 ∷ 12 ∷ 165 ∷ 17 ∷ 243 ∷ 2 ∷ 2 ∷ 25 ∷ 20 ∷ 165 ∷ 2 ∷ 2 ∷ []

-- the document in a buffer of 20 places, the last five of them 7
abbrev pub buffer : List ℕ
buffer = small ++ (7 ∷ 7 ∷ 7 ∷ 7 ∷ 7 ∷ [])

-- a second buffer of 20 places that hold 7
abbrev pub second : List ℕ
second = replicate 20 7

-- its counts: one shade, panel, row and use
abbrev pub counts : List ℤ
counts = pos 1 ∷ pos 1 ∷ pos 1 ∷ pos 1 ∷ replicate 44 (pos 0)

abbrev pub same_answer : ℕ → ℕ → Answer → Bool
same_answer n p a = eqb a.0 n && eqb a.1 p

-- ---- a slip to shut out, by the expressions and by the table

-- element 0 with a model, 1 and 2 EMPTY; a document of n children of element 1
abbrev pub two_with : List ℕ → List ℕ
two_with symbols = 3 ∷ 0 ∷ 2 ∷ length symbols ∷ symbols ++ (0 ∷ 0 ∷ 0 ∷ 0 ∷ 0 ∷ [])

abbrev pub ones : ℕ → List ℕ
ones n = 1 ∷ concat (replicate n (9 ∷ 2 ∷ [])) ++ (2 ∷ [])

abbrev pub checks_as : Parsed Schema → List ℕ → ℕ → ℕ → Bool
checks_as (stop k) doc n p = false
checks_as (ok s r) doc n p = same_answer n p (checking (of_schema s) doc (length doc)) && same_answer n p (check (table_of s) doc (length doc))

-- "Running a content table without asking, at the end, whether the last occurrence may be last."
pub last_asked : checks_as (schema_of (file_of (two_with (0 ∷ 6 ∷ 7 ∷ [])))) (ones 1) 9 3 ≡ true
unfolding all_open
last_asked = refl

-- ---- a text-only element without text

-- Item 1: document 01 with the text of its row gone
pub empty_row : checks_as (schema_of (file_of shade)) (1 ∷ 4 ∷ 61 ∷ 9 ∷ 12 ∷ 165 ∷ 17 ∷ 2 ∷ 2 ∷ 25 ∷ 20 ∷ 165 ∷ 2 ∷ 2 ∷ []) 0 0 ≡ true
unfolding all_open
empty_row = refl

-- ---- where content stops

-- a document by the small shade's schema, and the place of its 9
abbrev pub stops_at : ℕ × List ℕ → Bool
stops_at x = checks_as (schema_of (file_of shade)) x.1 9 x.0

-- A use where a panel must stand, with none behind it, and with one; no child at all: the end token; a text in the shade, before and behind
-- the panel; two texts in a row; a panel in a row, and behind its text; a text in the use.
abbrev pub stopping : List (ℕ × List ℕ)
stopping =
    (3, 1 ∷ 4 ∷ 61 ∷ 25 ∷ 20 ∷ 165 ∷ 2 ∷ 2 ∷ [])
    ∷ (3, 1 ∷ 4 ∷ 61 ∷ 25 ∷ 20 ∷ 165 ∷ 2 ∷ 9 ∷ 12 ∷ 165 ∷ 17 ∷ 243 ∷ 2 ∷ 2 ∷ 25 ∷ 20 ∷ 165 ∷ 2 ∷ 2 ∷ [])
    ∷ (3, 1 ∷ 4 ∷ 61 ∷ 2 ∷ [])
    ∷ (3, 1 ∷ 4 ∷ 61 ∷ 243 ∷ 9 ∷ 12 ∷ 165 ∷ 17 ∷ 243 ∷ 2 ∷ 2 ∷ 2 ∷ [])
    ∷ (10, 1 ∷ 4 ∷ 61 ∷ 9 ∷ 12 ∷ 165 ∷ 17 ∷ 243 ∷ 2 ∷ 2 ∷ 243 ∷ 2 ∷ [])
    ∷ (8, 1 ∷ 4 ∷ 61 ∷ 9 ∷ 12 ∷ 165 ∷ 17 ∷ 243 ∷ 243 ∷ 2 ∷ 2 ∷ 2 ∷ [])
    ∷ (7, 1 ∷ 4 ∷ 61 ∷ 9 ∷ 12 ∷ 165 ∷ 17 ∷ 9 ∷ 12 ∷ 173 ∷ 2 ∷ 2 ∷ 2 ∷ 2 ∷ [])
    ∷ (8, 1 ∷ 4 ∷ 61 ∷ 9 ∷ 12 ∷ 165 ∷ 17 ∷ 243 ∷ 9 ∷ 12 ∷ 173 ∷ 2 ∷ 2 ∷ 2 ∷ 2 ∷ [])
    ∷ (13, 1 ∷ 4 ∷ 61 ∷ 9 ∷ 12 ∷ 165 ∷ 17 ∷ 243 ∷ 2 ∷ 2 ∷ 25 ∷ 20 ∷ 165 ∷ 243 ∷ 2 ∷ 2 ∷ [])
    ∷ []

pub all_stop : all stops_at stopping ≡ true
unfolding all_open
all_stop = refl

-- ---- what an edit cost

-- an edit of the small shade, and the children looked at
abbrev pub costs : Parsed Schema → (Request × ℕ) → Bool
costs (stop k) x = false
costs (ok s r) x =
    eqb (outcome buffer 15 second counts (edit_by (of_schema s) buffer 15 x.0 second counts)).children x.1
    && eqb (edit (table_of s) buffer 15 x.0 second counts).children x.1

-- The use goes: the shade is left with a panel. The row's text goes: nothing is left in it; another comes: the text alone, which has none of
-- its own. A panel comes, with nothing in it; the panel is replaced by one with a row that has a text. The shade is replaced by itself: it has
-- no parent. The panel's ID is set, and the title: the children of that element. What is refused reports 0.
abbrev pub costing : List (Request × ℕ)
costing =
    (record { operation = 2; place = 10; piece = [] }, 1)
    ∷ (record { operation = 2; place = 7; piece = [] }, 0)
    ∷ (record { operation = 3; place = 7; piece = 251 ∷ [] }, 1)
    ∷ (record { operation = 1; place = 10; piece = 9 ∷ 12 ∷ 173 ∷ 2 ∷ [] }, 3)
    ∷ (record { operation = 3; place = 3; piece = 9 ∷ 12 ∷ 165 ∷ 17 ∷ 251 ∷ 2 ∷ 2 ∷ [] }, 4)
    ∷ (record { operation = 3; place = 0; piece = small }, 4)
    ∷ (record { operation = 4; place = 3; piece = 12 ∷ 165 ∷ [] }, 1)
    ∷ (record { operation = 4; place = 0; piece = 4 ∷ 69 ∷ [] }, 2)
    ∷ (record { operation = 2; place = 3; piece = [] }, 0)
    ∷ (record { operation = 5; place = 3; piece = 12 ∷ [] }, 0)
    ∷ []

pub all_cost : all (costs (schema_of (file_of shade))) costing ≡ true
unfolding all_open
all_cost = refl
