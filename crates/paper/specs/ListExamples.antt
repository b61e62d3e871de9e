-- Item 6 on the small shade, by computing: edits done, a refusal among them, and the list's own faults. Assumes nothing.
use Rattle.std.specs.Prelude.{◌≡◌, refl, List, [], ◌∷◌, ◌++◌, map, ℕ, ℤ, pos, ◌-ℤ◌, take, replicate}
use Rattle.paper.specs.Basics.{concat}
use Rattle.paper.specs.Files.{file_of}
use Rattle.paper.specs.Schema.{Schema, Parsed, stop, ok, schema_of}
use Rattle.paper.specs.Table.{table_of}
use Rattle.paper.specs.Edits.{Outcome}
use Rattle.paper.specs.Lists.{split_list, fault_of, Listed, edit_list}
use Rattle.paper.specs.Open.{all_open}
use Rattle.paper.specs.SmallShade.{shade, small, buffer, counts}

-- the last answer's number, place, used length, change and children looked at, and how many edits are done
abbrev Told : Type 0
Told = ℕ × ℕ × ℕ × ℤ × ℕ × ℕ

abbrev told : Listed Outcome → Told
told o = (o.last.number, o.last.place, o.last.used, o.last.change, o.last.children, o.done)

-- a list on the small shade
abbrev runs : Parsed Schema → List ℕ → Listed Outcome
runs (stop n) l = edit_list [] buffer 15 l counts
runs (ok s r) l = edit_list (table_of s) buffer 15 l counts

-- the use goes; the panel goes, which is refused; its row goes; a use comes at 10
abbrev no_use : List ℕ
no_use = 2 ∷ 10 ∷ 0 ∷ []

abbrev no_panel : List ℕ
no_panel = 2 ∷ 3 ∷ 0 ∷ []

abbrev no_row : List ℕ
no_row = 2 ∷ 6 ∷ 0 ∷ []

abbrev new_use : List ℕ
new_use = 1 ∷ 10 ∷ 4 ∷ 25 ∷ 20 ∷ 165 ∷ 2 ∷ []

-- One edit, and two; a refusal in the middle ends the list, and at its front nothing is done; an operation that is none; no edit; an end
-- behind the operation, behind the place, and inside the piece.
abbrev cases : List (List ℕ × Told)
cases =
    (no_use, (0, 0, 11, pos 11 -ℤ pos 15, 1, 1))
    ∷ (no_use ++ new_use, (0, 0, 15, pos 4, 2, 2))
    ∷ (no_use ++ (no_panel ++ new_use), (9, 3, 11, pos 0, 0, 1))
    ∷ (no_panel ++ no_use, (9, 3, 15, pos 0, 0, 0))
    ∷ (no_use ++ (6 ∷ 0 ∷ 0 ∷ []), (6, 0, 11, pos 0, 0, 1))
    ∷ ([], (4, 0, 15, pos 0, 0, 0))
    ∷ (no_use ++ (2 ∷ []), (4, 0, 15, pos 0, 0, 0))
    ∷ (no_use ++ (2 ∷ 3 ∷ []), (4, 0, 15, pos 0, 0, 0))
    ∷ (no_use ++ (1 ∷ 10 ∷ 5 ∷ 25 ∷ 20 ∷ 165 ∷ 2 ∷ []), (4, 0, 15, pos 0, 0, 0))
    ∷ []

pub all_told : map (λ (x : List ℕ × Told). told (runs (schema_of (file_of shade)) x.0)) cases ≡ map (λ (x : List ℕ × Told). x.1) cases
unfolding all_open
all_told = refl

-- "what was done before stands": the use is gone
pub stands : (runs (schema_of (file_of shade)) (no_use ++ (no_panel ++ new_use))).last.buffer ≡ take 10 small ++ (2 ∷ 0 ∷ 0 ∷ 0 ∷ 0 ∷ 7 ∷ 7 ∷ 7 ∷ 7 ∷ 7 ∷ [])
unfolding all_open
stands = refl

-- Item 7: the counts of both edits that were done are carried; a refusal leaves them
pub carried : (runs (schema_of (file_of shade)) (no_use ++ (no_row ++ no_panel))).last.counts ≡ pos 1 ∷ pos 1 ∷ pos 0 ∷ pos 0 ∷ replicate 44 (pos 0)
unfolding all_open
carried = refl

-- so many edits, and a rest
abbrev many : ℕ → List ℕ → ℕ
many n rest = fault_of (split_list (concat (replicate n no_use) ++ rest))

-- 256 edits, and one more; a broken rest behind 256 is 5 and behind 255 is 4
pub most : many 256 [] ∷ many 257 [] ∷ many 256 (2 ∷ []) ∷ many 255 (2 ∷ []) ∷ [] ≡ 0 ∷ 5 ∷ 5 ∷ 4 ∷ []
unfolding all_open
most = refl
