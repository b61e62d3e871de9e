-- Ambiguity, by meaning: two marked words that agree up to a place and read there two different occurrences of one name. So
-- a reader who sees the names only, and no further than the next, cannot tell which occurrence it is at.
-- An expression is ambiguous exactly if one of Glushkov's sets, `first` or the `follow` of an occurrence, holds two such
-- occurrences. Assumes nothing.
use Rattle.std.specs.Prelude.{ℕ, T}
use Rattle.paper.specs.Expressions.{Expr, Twins}
use Rattle.paper.specs.Sets.{Set}

-- a set that holds twins
abbrev pub Clash : Expr → Set → Type 0
Clash e S = (x : ℕ) × (y : ℕ) × T (S x) × T (S y) × Twins e x y
