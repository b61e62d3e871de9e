-- "The small shade": the cases marked P and the four models, as one list, and one statement over it. Item 1: "In document 01, remove
-- at 7 becomes done with length 14." Item 3: "Document 01's cases change: remove at 3, and insert of the use at 3, both give 9 at 3."
-- Assumes nothing.
use Rattle.std.specs.Prelude.{◌≡◌, refl, Bool, true, false, ◌&&◌, List, [], ◌∷◌, ℕ, zero, suc, eqb}
use Rattle.paper.specs.Basics.{all}
use Rattle.paper.specs.Files.{file_of}
use Rattle.paper.specs.Schema.{Schema, Parsed, stop, ok, schema_of, refusal_of}
use Rattle.paper.specs.Table.{table_of}
use Rattle.paper.specs.Rules.{of_schema}
use Rattle.paper.specs.Judgement.{checking, check}
use Rattle.paper.specs.Edits.{Request, Outcome, outcome, edit_by, edit}
use Rattle.paper.specs.Open.{all_open}
use Rattle.paper.specs.SmallShade.{shade_with, shade, buffer, second, counts, same_answer}

-- "sixty-four `a` in sequence" is `chain 63`
abbrev pub chain : ℕ → List ℕ
chain zero = 6 ∷ []
chain (suc n) = 0 ∷ 6 ∷ chain n

pub data Case : Type 0 where
  -- the check gives a number and a place
  checks : ℕ → ℕ → Case
  -- the edit, operation, place and piece, gives a number, a place and a used length
  edits : ℕ → ℕ → List ℕ → ℕ → ℕ → ℕ → Case
  -- with these symbols for the shade's model, the translator gives a number: 3 if they are ambiguous, and 0 if not
  translates : List ℕ → ℕ → Case

abbrev pub cases : List Case
cases =
    checks 0 0
    ∷ edits 2 3 [] 9 3 15
    ∷ edits 2 10 [] 0 0 11
    ∷ edits 2 7 [] 0 0 14
    ∷ edits 1 10 (9 ∷ 12 ∷ 165 ∷ 2 ∷ []) 11 12 15
    ∷ edits 1 10 (9 ∷ 12 ∷ 173 ∷ 2 ∷ []) 0 0 19
    ∷ edits 1 3 (25 ∷ 20 ∷ 165 ∷ 2 ∷ []) 9 3 15
    ∷ edits 1 10 (25 ∷ 20 ∷ 165 ∷ 2 ∷ []) 0 0 19
    ∷ edits 3 3 (9 ∷ 12 ∷ 173 ∷ 2 ∷ []) 12 9 15
    ∷ edits 5 3 (12 ∷ []) 8 3 15
    ∷ translates (0 ∷ 2 ∷ 6 ∷ 6 ∷ []) 3
    ∷ translates (1 ∷ 0 ∷ 6 ∷ 7 ∷ 0 ∷ 6 ∷ 8 ∷ []) 3
    ∷ translates (3 ∷ 0 ∷ 3 ∷ 6 ∷ 3 ∷ 7 ∷ []) 0
    ∷ translates (chain 63) 0
    ∷ []

abbrev pub same_outcome : ℕ → ℕ → ℕ → Outcome → Bool
same_outcome n p u o = eqb o.number n && eqb o.place p && eqb o.used u

-- a check and an edit are judged by the expressions and by the table alike
module _ (s : Schema) where
  abbrev pub holds_by : Case → Bool
  holds_by (checks n p) = same_answer n p (checking (of_schema s) buffer 15) && same_answer n p (check (table_of s) buffer 15)
  holds_by (edits op at piece n p u) =
      let q : Request = record { operation = op; place = at; piece = piece } in
      same_outcome n p u (outcome buffer 15 second counts (edit_by (of_schema s) buffer 15 q second counts))
      && same_outcome n p u (edit (table_of s) buffer 15 q second counts)
  holds_by (translates symbols n) = eqb (refusal_of (schema_of (file_of (shade_with symbols)))) n

abbrev pub holds : Parsed Schema → Case → Bool
holds (stop n) c = false
holds (ok s r) c = holds_by s c

pub all_hold : all (holds (schema_of (file_of shade))) cases ≡ true
unfolding all_open
all_hold = refl
