-- What the reader gives for an expression at a place of the symbols. Assumes nothing.
use Rattle.std.specs.Prelude.{◌≡◌, Option, Some, None, List, ◌++◌, ℕ, ◌+◌, ◌≤◌, length, drop}
use Rattle.paper.specs.Basics.{most_names}
use Rattle.paper.specs.Expressions.{Expr, count}
use Rattle.paper.specs.Sets.{nullable, first_word, last_word}
use Rattle.paper.specs.Schema.{symbols_of}
use Rattle.model_parts.specs.declared.Part.{Part}
use Rattle.content.specs.Linked.{linked}

-- An expression stands at a place of s, and its occurrences are numbered from p on: f are the words before, and g after.
pub record Found (s : List ℕ) (at p : ℕ) (f g : List ℕ) (r : Part) : Type 0 where
  pub expr : Expr
  pub here : drop at s ≡ symbols_of expr ++ drop r.next s
  pub within : r.next ≤ length s
  pub places : r.places ≡ p + count expr
  pub fits : r.places ≤ most_names
  pub nullable : r.nullable ≡ nullable expr
  pub first : r.first ≡ first_word p expr
  pub last : r.last ≡ last_word p expr
  pub follow : g ≡ linked p expr f

-- l begins with no expression for whose names there is room from p on
abbrev pub Nothing : List ℕ → ℕ → Type 0
Nothing l p = (e : Expr) (t : List ℕ) → l ≡ symbols_of e ++ t → p + count e ≤ most_names → ⊥

pub record Got (s : List ℕ) (at p : ℕ) (f g : List ℕ) (r : Option Part) : Type 0 where
  pub found : (a : Part) → r ≡ Some a → Found s at p f g a
  pub lost : r ≡ None → Nothing (drop at s) p
