-- Item 2 on the small shade, by computing: edits with the numbers that take them back. Assumes nothing.
use Rattle.std.specs.Prelude.{◌≡◌, refl, List, [], ◌∷◌, map, ℕ, replicate}
use Rattle.paper.specs.Requests.{Request}
use Rattle.paper.specs.Files.{file_of}
use Rattle.paper.specs.Schema.{Schema, Parsed, stop, ok, schema_of}
use Rattle.paper.specs.Rules.{of_schema}
use Rattle.paper.specs.Back.{went, inverse, noted, edit_in}
use Rattle.paper.specs.Edits.{outcome, edit_by}
use Rattle.paper.specs.Open.{all_open}
use Rattle.paper.specs.SmallShade.{shade, small, buffer, counts}

abbrev ask : ℕ → ℕ → List ℕ → Request
ask op at piece = record { operation = op; place = at; piece = piece }

-- An edit, and the second buffer behind it, of eight places that held 7. Insert; remove of an element, and of a text; replace; a set of
-- another value, of the same value, and of an attribute that is added; drop.
abbrev pub steps : List (Request × List ℕ)
steps =
    (ask 1 10 (9 ∷ 12 ∷ 173 ∷ 2 ∷ []), 2 ∷ 10 ∷ 0 ∷ 7 ∷ 7 ∷ 7 ∷ 7 ∷ 7 ∷ [])
    ∷ (ask 2 10 [], 1 ∷ 10 ∷ 4 ∷ 25 ∷ 20 ∷ 165 ∷ 2 ∷ 7 ∷ [])
    ∷ (ask 2 7 [], 1 ∷ 7 ∷ 1 ∷ 243 ∷ 7 ∷ 7 ∷ 7 ∷ 7 ∷ [])
    ∷ (ask 3 6 (17 ∷ 2 ∷ []), 3 ∷ 6 ∷ 3 ∷ 17 ∷ 243 ∷ 2 ∷ 7 ∷ 7 ∷ [])
    ∷ (ask 4 0 (4 ∷ 69 ∷ []), 4 ∷ 0 ∷ 2 ∷ 4 ∷ 61 ∷ 7 ∷ 7 ∷ 7 ∷ [])
    ∷ (ask 4 0 (4 ∷ 61 ∷ []), 4 ∷ 0 ∷ 2 ∷ 4 ∷ 61 ∷ 7 ∷ 7 ∷ 7 ∷ [])
    ∷ (ask 4 3 (4 ∷ 61 ∷ 69 ∷ []), 5 ∷ 3 ∷ 1 ∷ 4 ∷ 7 ∷ 7 ∷ 7 ∷ 7 ∷ [])
    ∷ (ask 5 3 (12 ∷ []), 4 ∷ 3 ∷ 2 ∷ 12 ∷ 165 ∷ 7 ∷ 7 ∷ 7 ∷ [])
    ∷ []

abbrev sevens : List ℕ
sevens = 7 ∷ 7 ∷ 7 ∷ 7 ∷ 7 ∷ 7 ∷ 7 ∷ 7 ∷ []

pub all_step : map (λ (c : Request × List ℕ). noted sevens (inverse c.0 small)) steps ≡ map (λ (c : Request × List ℕ). c.1) steps
unfolding inverse went
all_step = refl

-- and each reads as that edit
pub all_read : map (λ (c : Request × List ℕ). edit_in c.1) steps ≡ map (λ (c : Request × List ℕ). inverse c.0 small) steps
unfolding inverse went
all_read = refl

-- ---- the second buffer's room

-- the number of an edit of the small shade, by its expressions, with a second buffer of so many places
abbrev pub number_with : Parsed Schema → Request × ℕ → ℕ
number_with (stop k) x = k
number_with (ok s r) x = let second : List ℕ = replicate x.1 7 in (outcome buffer 15 second counts (edit_by (of_schema s) buffer 15 x.0 second counts)).number

-- A remove of four tokens, and an insert: long enough, and one short. A remove that judgement refuses: 5 comes first. An attribute that is
-- added, where none is declared, the same. An operation that is none: 6 comes first.
abbrev pub rooms : List (Request × ℕ)
rooms =
    (ask 2 10 [], 7) ∷ (ask 2 10 [], 6)
    ∷ (ask 1 10 (9 ∷ 12 ∷ 173 ∷ 2 ∷ []), 3) ∷ (ask 1 10 (9 ∷ 12 ∷ 173 ∷ 2 ∷ []), 2)
    ∷ (ask 2 3 [], 10) ∷ (ask 2 3 [], 9)
    ∷ (ask 4 3 (4 ∷ 61 ∷ []), 4) ∷ (ask 4 3 (4 ∷ 61 ∷ []), 3)
    ∷ (ask 0 3 [], 0)
    ∷ []

pub all_room : map (number_with (schema_of (file_of shade))) rooms ≡ 0 ∷ 5 ∷ 0 ∷ 5 ∷ 9 ∷ 5 ∷ 8 ∷ 5 ∷ 6 ∷ []
unfolding all_open
all_room = refl
