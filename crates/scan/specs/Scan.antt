-- The scan that tells in one pass whether tokens are one element of good shape: its table and its steps. Assumes nothing.
use Rattle.std.specs.Prelude.{Bool, ◌&&◌, List, [], ◌∷◌, ℕ, ◌+◌, ◌-◌, ◌*◌, ◌/◌, ◌%◌, ◌^◌, leb, ltb, eqb, get_or}
use Rattle.paper.specs.Basics.{most_deep, most_number}
use Rattle.scan.specs.declared.Scan.{Scan}

-- ---- the table

-- the numbers that a token can have, from 0 on
abbrev all : ℕ
all = most_number + 1

-- five rows of eight numbers, one for each sort
unfoldable pub rules : List (List ℕ)
rules =
    (0 ∷ 30 ∷ 14 ∷ 14 ∷ 32 ∷ 62 ∷ 0 ∷ 0 ∷ [])
    ∷ (0 ∷ all ∷ 1 ∷ all ∷ all ∷ all ∷ 0 ∷ 0 ∷ [])
    ∷ (1 ∷ 2 ∷ 0 ∷ 1 ∷ 1 ∷ 1 ∷ 1 ∷ 1 ∷ [])
    ∷ (0 ∷ 0 ∷ 0 ∷ 0 ∷ 1 ∷ 0 ∷ 0 ∷ 0 ∷ [])
    ∷ (0 ∷ 0 ∷ 0 ∷ 0 ∷ 0 ∷ 1 ∷ 0 ∷ 0 ∷ [])
    ∷ []

abbrev pub rule : ℕ → ℕ → ℕ
rule row sort = get_or (get_or rules row []) sort 0

-- the sorts that may stand after a token of this sort, a bit for each
abbrev pub follow : ℕ → ℕ
follow = rule 0

-- how many numbers the sort has
abbrev pub numbers : ℕ → ℕ
numbers = rule 1

-- one more than what the level rises by
abbrev pub rise : ℕ → ℕ
rise = rule 2

-- 1 for the sort of attributes, and for that of values
abbrev pub is_attribute : ℕ → ℕ
is_attribute = rule 3

abbrev pub is_value : ℕ → ℕ
is_value = rule 4

-- ---- the steps

-- the set of bits holds the sort
abbrev pub holds : ℕ → ℕ → Bool
holds next sort = eqb (next / 2 ^ sort % 2) 1

-- the token of a sort and a number may stand where the scan is: an element is open, not too deep; the sort has the number, and may stand
-- next; an attribute's number is large enough
unfoldable pub stands : Scan → ℕ → ℕ → Bool
stands s sort n =
    leb 1 s.level && (leb s.level most_deep && (ltb n (numbers sort) && (holds s.next sort && leb (s.least * is_attribute sort) n)))

-- the scan behind that token
unfoldable pub passed : Scan → ℕ → ℕ → Scan
passed s sort n =
    record { next = follow sort; least = s.least * is_value sort + (n + 1) * is_attribute sort; level = s.level + rise sort - 1 }
