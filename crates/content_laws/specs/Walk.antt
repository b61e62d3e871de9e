-- Glushkov's automaton. A state is `start`, nothing read yet, or `at k`, occurrence k read last. `Walk b e s p` says that
-- from the state s the occurrences of p can be read one after another, and that the word may end there. So from the start:
-- p is empty and e is nullable, or p's head is a first, each next one can follow the one before, and the last one is a last.
-- Assumes nothing.
use Rattle.std.specs.Prelude.{Bool, ℕ, List, [], ◌∷◌, T}
use Rattle.paper.specs.Expressions.{Expr, count}
use Rattle.paper.specs.Sets.{Set, nullable, first, last, follow}
use Rattle.content_laws.specs.Within.{Within, first_within, follow_within}
use Rattle.paper.specs.Rules.{State, start, at}

-- the occurrences that can come next
abbrev pub next : ℕ → Expr → State → Set
next b e start = first b e
next b e (at j) = follow b e j

-- the word may end here
abbrev pub ends : ℕ → Expr → State → Bool
ends b e start = nullable e
ends b e (at j) = last b e j

abbrev pub Walk : ℕ → Expr → State → List ℕ → Type 0
Walk b e s [] = T (ends b e s)
Walk b e s (x ∷ p) = T (next b e s x) × Walk b e (at x) p

-- the same where the word need not end
abbrev pub Reads : ℕ → Expr → State → List ℕ → Type 0
Reads b e s [] = Unit {0}
Reads b e s (x ∷ p) = T (next b e s x) × Reads b e (at x) p

-- the state after p
abbrev pub after : State → List ℕ → State
after s [] = s
after s (x ∷ p) = after (at x) p

-- the start, or at one of e's occurrences
abbrev pub Of : ℕ → Expr → State → Type 0
Of b e start = Unit {0}
Of b e (at k) = Within b (count e) k

pub next_of : (b : ℕ) (e : Expr) (s : State) (k : ℕ) → T (next b e s k) → Within b (count e) k
next_of b e start k t = first_within b e k t
next_of b e (at j) k t = (follow_within b e j k t).1
