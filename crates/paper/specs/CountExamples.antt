-- Item 7 on the small shade, by computing: its true counts, what edits make of them, 15, and the question. Assumes nothing.
use Rattle.std.specs.Prelude.{◌≡◌, refl, List, [], ◌∷◌, ◌++◌, map, ℕ, ℤ, pos, negsuc, replicate}
use Rattle.paper.specs.Files.{file_of}
use Rattle.paper.specs.Schema.{Schema, Parsed, stop, ok, schema_of}
use Rattle.paper.specs.Table.{table_of}
use Rattle.paper.specs.Counts.{checked_counts, moved, elements_of}
use Rattle.paper.specs.Edits.{Request, edit}
use Rattle.paper.specs.Open.{all_open}
use Rattle.paper.specs.SmallShade.{shade, small, buffer, second, counts}

abbrev ask : ℕ → ℕ → List ℕ → Request
ask op at piece = record { operation = op; place = at; piece = piece }

-- the shade's table
abbrev table_in : Parsed Schema → List ℕ
table_in (stop k) = []
table_in (ok s r) = table_of s

abbrev table : List ℕ
table = table_in (schema_of (file_of shade))

-- counts of the first four names, and 0
abbrev rest : List ℤ → List ℤ
rest l = l ++ replicate 44 (pos 0)

-- ---- the check

-- whatever stood there, E and above are 0 then; a check that is not valid leaves them
pub written : checked_counts table buffer 15 (replicate 48 (negsuc 6)) ≡ counts
unfolding all_open
written = refl

pub left : checked_counts table buffer 14 (replicate 48 (negsuc 6)) ≡ replicate 48 (negsuc 6)
unfolding all_open
left = refl

-- ---- edits

-- An edit, and its number and the counts of shade, panel, row and use after it. A panel comes; the use goes; the panel is replaced by one
-- with two rows; the row is replaced by a panel, which is refused; a set; a drop, which is refused.
abbrev cases : List (Request × (ℕ × List ℤ))
cases =
    (ask 1 10 (9 ∷ 12 ∷ 173 ∷ 2 ∷ []), (0, rest (pos 1 ∷ pos 2 ∷ pos 1 ∷ pos 1 ∷ [])))
    ∷ (ask 2 10 [], (0, rest (pos 1 ∷ pos 1 ∷ pos 1 ∷ pos 0 ∷ [])))
    ∷ (ask 3 3 (9 ∷ 12 ∷ 165 ∷ 17 ∷ 2 ∷ 17 ∷ 2 ∷ 2 ∷ []), (0, rest (pos 1 ∷ pos 1 ∷ pos 2 ∷ pos 1 ∷ [])))
    ∷ (ask 3 6 (9 ∷ 12 ∷ 173 ∷ 2 ∷ []), (9, counts))
    ∷ (ask 4 0 (4 ∷ 69 ∷ []), (0, counts))
    ∷ (ask 5 3 (12 ∷ []), (8, counts))
    ∷ []

abbrev pub after : Request → List ℤ → ℕ × List ℤ
after q l = ((edit table buffer 15 q second l).number, (edit table buffer 15 q second l).counts)

pub all_after : map (λ (c : Request × (ℕ × List ℤ)). after c.0 counts) cases ≡ map (λ (c : Request × (ℕ × List ℤ)). c.1) cases
unfolding all_open
all_after = refl

-- an element of no declared name is counted nowhere
pub undeclared : moved 4 (ask 1 10 (33 ∷ 2 ∷ [])) small counts ≡ counts
unfolding all_open
undeclared = refl

-- ---- 15

-- counts of shade, panel and use, of rows n, and of the last of the 48 names m
abbrev with : (n m : ℤ) → List ℤ
with n m = pos 1 ∷ pos 1 ∷ n ∷ pos 1 ∷ replicate 43 (pos 0) ++ (m ∷ [])

-- A panel without a row comes for one with a row: the count of rows is -1, 0, 8,192 and 8,193 behind it. A set moves none, and all 48 are
-- looked at. Judgement comes behind 15: the panel is refused with 9 else. The 5s come before it: an inverse has no room in a buffer of no
-- place.
pub fifteens :
    map (λ n. (after (ask 3 3 (9 ∷ 12 ∷ 165 ∷ 2 ∷ [])) (with n (pos 0))).0) (pos 0 ∷ pos 1 ∷ pos 8193 ∷ pos 8194 ∷ [])
    ++ (map (λ m. (after (ask 4 0 (4 ∷ 69 ∷ [])) (with (pos 1) m)).0) (pos 8192 ∷ pos 8193 ∷ negsuc 0 ∷ [])
    ++ (map (λ n. (after (ask 2 3 []) (with n (pos 0))).0) (pos 0 ∷ pos 1 ∷ [])
    ++ ((edit table buffer 15 (ask 2 3 []) [] (with (pos 0) (pos 0))).number ∷ [])))
    ≡ 15 ∷ 0 ∷ 0 ∷ 15 ∷ 0 ∷ 15 ∷ 15 ∷ 15 ∷ 9 ∷ 5 ∷ []
unfolding all_open
fifteens = refl

-- ---- the question

-- the number of panels; a name of E and above, within 48 and beyond; a count that no document has; no table
pub questions :
    elements_of table counts 1 ∷ elements_of table (with (pos 1) (pos 7)) 47 ∷ elements_of table counts 48
    ∷ elements_of table (with (pos 1) (pos 8193)) 1 ∷ elements_of [] counts 1 ∷ []
    ≡ (0, 1) ∷ (0, 0) ∷ (0, 0) ∷ (15, 0) ∷ (13, 0) ∷ []
unfolding all_open
questions = refl
