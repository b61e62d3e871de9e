-- Item 8, fixed attributes, by computing: documents by a schema with some, files that are taken and refused, and tables with one number
-- changed. Assumes nothing.
use Rattle.std.specs.Prelude.{◌≡◌, refl, Bool, true, false, cond, not, List, [], ◌∷◌, ◌++◌, map, ℕ, eqb, set}
use Rattle.paper.specs.Basics.{all, concat, from}
use Rattle.paper.specs.Files.{file_of}
use Rattle.paper.specs.Schema.{Schema, Parsed, stop, ok, refusal_of, schema_of}
use Rattle.paper.specs.Table.{table_of, proper}
use Rattle.paper.specs.SmallShade.{checks_as}
use Rattle.paper.specs.Open.{all_open}

-- Two elements. The first has a model of any number of the second, a required attribute 0, an attribute 1 that is fixed to 20 and an ID 2;
-- the second is EMPTY, and its attribute 1 is fixed to 30.
abbrev pub gauge : List ℕ
gauge = 2 ∷ 0 ∷ 2 ∷ 2 ∷ 3 ∷ 6 ∷ 3 ∷ 0 ∷ 0 ∷ 0 ∷ 1 ∷ 0 ∷ 2 ∷ 20 ∷ 2 ∷ 1 ∷ 1 ∷ 0 ∷ 1 ∷ 1 ∷ 0 ∷ 2 ∷ 30 ∷ []

-- ---- documents

-- a document, its number and its place
abbrev pub answers : (ℕ × ℕ × List ℕ) → Bool
answers x = checks_as (schema_of (file_of gauge)) x.2 x.0 x.1

-- Both absent; both present with their values. The first with the value of the second, with another value, with its own value twice, and
-- with its own before and behind another; the second element with the value of the first.
abbrev pub answering : List (ℕ × ℕ × List ℕ)
answering =
    (0, 0, 1 ∷ 4 ∷ 61 ∷ 9 ∷ 2 ∷ 2 ∷ [])
    ∷ (0, 0, 1 ∷ 4 ∷ 61 ∷ 12 ∷ 165 ∷ 9 ∷ 12 ∷ 245 ∷ 2 ∷ 2 ∷ [])
    ∷ (8, 0, 1 ∷ 4 ∷ 61 ∷ 12 ∷ 245 ∷ 2 ∷ [])
    ∷ (8, 0, 1 ∷ 4 ∷ 61 ∷ 12 ∷ 5 ∷ 2 ∷ [])
    ∷ (8, 0, 1 ∷ 4 ∷ 61 ∷ 12 ∷ 165 ∷ 165 ∷ 2 ∷ [])
    ∷ (8, 0, 1 ∷ 4 ∷ 61 ∷ 12 ∷ 165 ∷ 5 ∷ 2 ∷ [])
    ∷ (8, 0, 1 ∷ 4 ∷ 61 ∷ 12 ∷ 5 ∷ 165 ∷ 2 ∷ [])
    ∷ (8, 3, 1 ∷ 4 ∷ 61 ∷ 9 ∷ 12 ∷ 165 ∷ 2 ∷ 2 ∷ [])
    ∷ []

pub all_answer : all answers answering ≡ true
unfolding all_open
all_answer = refl

-- ---- files

-- one element, EMPTY, with the attributes
abbrev pub alone : ℕ → List ℕ → List ℕ
alone n attributes = 1 ∷ 0 ∷ 0 ∷ n ∷ attributes

-- n fixed attributes
abbrev pub several : ℕ → List ℕ
several n = concat (map (λ a. a ∷ 0 ∷ 2 ∷ 7 ∷ []) (from 0 n))

-- a file, and the translator's number
abbrev pub refuses : (ℕ × List ℕ) → Bool
refuses x = eqb (refusal_of (schema_of (file_of x.1))) x.0

-- The values 0 and 65,535, and 65,536; no value. Fixed, and an ID, an IDREF or an IDREFS; the status 3. Sixteen, seventeen, and a
-- seventeenth in another element.
abbrev pub refusing : List (ℕ × List ℕ)
refusing =
    (0, alone 1 (9 ∷ 0 ∷ 2 ∷ 0 ∷ []))
    ∷ (0, alone 1 (9 ∷ 0 ∷ 2 ∷ 65535 ∷ []))
    ∷ (2, alone 1 (9 ∷ 0 ∷ 2 ∷ 65536 ∷ []))
    ∷ (1, alone 1 (9 ∷ 0 ∷ 2 ∷ []))
    ∷ (2, alone 1 (9 ∷ 1 ∷ 2 ∷ 0 ∷ []))
    ∷ (2, alone 1 (9 ∷ 2 ∷ 2 ∷ 0 ∷ []))
    ∷ (2, alone 1 (9 ∷ 3 ∷ 2 ∷ 0 ∷ []))
    ∷ (2, alone 1 (9 ∷ 0 ∷ 3 ∷ 0 ∷ []))
    ∷ (0, alone 16 (several 16))
    ∷ (2, alone 17 (several 17))
    ∷ (0, 2 ∷ 0 ∷ 0 ∷ 15 ∷ several 15 ++ (0 ∷ 1 ∷ 4 ∷ 0 ∷ 2 ∷ 7 ∷ []))
    ∷ (2, 2 ∷ 0 ∷ 0 ∷ 16 ∷ several 16 ++ (0 ∷ 1 ∷ 4 ∷ 0 ∷ 2 ∷ 7 ∷ []))
    ∷ []

pub all_refuse : all refuses refusing ≡ true
unfolding all_open
all_refuse = refl

-- ---- tables

-- the table with one number changed, and whether it is proper
abbrev pub changed_as : Parsed Schema → Bool → ℕ → ℕ → Bool
changed_as (stop k) is i n = false
changed_as (ok s r) is i n = cond is (proper (set (table_of s) i n)) (not (proper (set (table_of s) i n)))

abbrev pub changes : (Bool × ℕ × ℕ) → Bool
changes x = changed_as (schema_of (file_of gauge)) x.0 x.1 x.2

-- The count stands at 6,626, and two entries behind it: 0 1 20, and 1 1 30. A value that is allowed, and one over 65,535. One entry and
-- two numbers that are not 0; three entries, the third that of element 0 and attribute 0; seventeen. An entry equal to the one before it;
-- of attribute 0, which is required, and 2, an ID; of attribute 3, which is not allowed; of attribute 64, and of element 2, which are
-- none. A number in the first unused entry and in the last.
abbrev pub changing : List (Bool × ℕ × ℕ)
changing =
    (true, 6629, 65535)
    ∷ (false, 6629, 65536)
    ∷ (false, 6626, 1)
    ∷ (false, 6626, 3)
    ∷ (false, 6626, 17)
    ∷ (false, 6630, 0)
    ∷ (false, 6628, 0)
    ∷ (false, 6628, 2)
    ∷ (false, 6628, 3)
    ∷ (false, 6628, 64)
    ∷ (false, 6630, 2)
    ∷ (false, 6633, 1)
    ∷ (false, 6674, 1)
    ∷ []

pub all_change : all changes changing ≡ true
unfolding all_open
all_change = refl
