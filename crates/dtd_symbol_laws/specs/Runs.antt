-- Symbols that are kept for a part, and when they are written. Assumes nothing.
use Rattle.std.specs.Prelude.{List, [], ◌∷◌, ℕ, ◌≤◌}
use Rattle.paper.specs.Dtd.Declarations.{Suffix, once, maybe, many, several}

-- ---- symbols kept for the part of a depth

-- the symbols g, the first of them the last met
abbrev pub kept : List ℕ → ℕ → List (ℕ × ℕ) → List (ℕ × ℕ)
kept [] e w = w
kept (g ∷ m) e w = (e, g) ∷ kept m e w

-- .. when they are written
abbrev pub onto : List ℕ → List ℕ → List ℕ
onto [] o = o
onto (g ∷ m) o = onto m (g ∷ o)

-- nothing is owed to parts that are deeper than d
abbrev pub Low : ℕ → List (ℕ × ℕ) → Type 0
Low d [] = Unit {0}
Low d ((k, g) ∷ w) = k ≤ d

-- of a suffix
abbrev pub signed : Suffix → List ℕ → List ℕ
signed once m = m
signed maybe m = 2 ∷ m
signed many m = 3 ∷ m
signed several m = 4 ∷ m
