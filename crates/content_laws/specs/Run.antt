-- The run that a reader of an unambiguous expression makes: the state is where it stands, and the next name leads to the
-- occurrence of that name that can come next. The run answers for the whole word exactly what the expression means, and it
-- gets stuck exactly where no word of the expression begins with what was read. Assumes nothing.
use Rattle.std.specs.Prelude.{Bool, false, ◌&&◌, ℕ, eqb}
use Rattle.std.proofs.Math.Option.{Option, none, some}
use mathlib.Core.List.{List, [], ◌∷◌}
use Rattle.paper.specs.Expressions.{Expr, count, name_at}
use Rattle.paper.specs.Sets.{Set}
use Rattle.paper.specs.Rules.{State, start, at}
use Rattle.content_laws.specs.Walk.{next, ends}
use Rattle.paper.specs.Basics.{find}

-- the occurrences of the name a that can come next
abbrev pub choices : Expr → State → ℕ → Set
choices e s a k = next 0 e s k && eqb (name_at e k) a

-- one of them
abbrev pub step : Expr → State → ℕ → Option ℕ
step e s a = find (choices e s a) (count e)

-- the state after the word w; none: stuck
abbrev pub run : Expr → State → List ℕ → Option State
run e s [] = some s
run e s (a ∷ w) = elim (step e s a) [ none ↦ none | some k ↦ run e (at k) w ]

-- the answer at the end of the word
abbrev pub answer : Expr → Option State → Bool
answer e none = false
answer e (some s) = ends 0 e s

abbrev pub accepts : Expr → List ℕ → Bool
accepts e w = answer e (run e start w)
