-- Item 12 on small models, by computing. The elements are a = 0 and b = 1. Assumes nothing.
use Rattle.std.specs.Prelude.{◌≡◌, refl, List, [], ◌∷◌, ℕ}
use Rattle.std.proofs.Math.Option.{Option, none, some}
use Rattle.paper.specs.Expressions.{Expr, name, seq, alt, opt, star, plus}
use Rattle.paper.specs.Schema.{Content, empty, model}
use Rattle.paper.specs.Rules.{Rules, undeclared, of_schema}
use Rattle.paper.specs.Inclusion.{lost, shortest_of}
use Rattle.paper.specs.Open.{all_open}

-- a with that content, and b empty
abbrev ruled : Content → Rules
ruled c = of_schema (record { root = 0; elements = record { content = c; attributes = [] } ∷ undeclared ∷ [] })

-- what a loses from c to d, of fewer than four names
abbrev pub lost_between : Content → Content → Option (List ℕ)
lost_between c d = shortest_of 4 2 (lost (ruled c) (ruled d) 0)

abbrev a : Expr
a = name 0

abbrev b : Expr
b = name 1

-- from a, b? to a, b: the shorter sequence
pub needed : lost_between (model (seq a (opt b))) (model (seq a b)) ≡ some (0 ∷ [])
unfolding all_open
needed = refl

-- from (a | b)* to a*, b*: of b, a and longer ones the shortest; and back
pub ordered : lost_between (model (star (alt a b))) (model (seq (star a) (star b))) ≡ some (1 ∷ 0 ∷ [])
unfolding all_open
ordered = refl

pub freed : lost_between (model (seq (star a) (star b))) (model (star (alt a b))) ≡ none
unfolding all_open
freed = refl

-- from a+ to a, a?: the end is asked
pub limited : lost_between (model (plus a)) (model (seq a (opt a))) ≡ some (0 ∷ 0 ∷ 0 ∷ [])
unfolding all_open
limited = refl

-- from (a | b), (a | b) to a, a: of a, b and b, a and b, b the lowest
pub chosen : lost_between (model (seq (alt a b) (alt a b))) (model (seq a a)) ≡ some (0 ∷ 1 ∷ [])
unfolding all_open
chosen = refl

-- from a? to EMPTY, and back: EMPTY takes the sequence that has no child
pub emptied : lost_between (model (opt a)) empty ≡ some (0 ∷ [])
unfolding all_open
emptied = refl

pub filled : lost_between empty (model (opt a)) ≡ none
unfolding all_open
filled = refl
