-- Every occurrence is useful: it stands in some marked word. So each state of the automaton is reached from the start and
-- reaches an end, and what can be read from the start is what some marked word begins with. Assumes nothing.
use Rattle.std.specs.Prelude.{◌≡◌, ℕ, ◌+◌, List, [], ◌∷◌, ◌++◌}
use Rattle.std.proofs.Math.Decide.{dec_lt}
use Rattle.std.proofs.Common.{arith, append_assoc, append-nil}
use Rattle.paper.specs.Expressions.{Expr, name, seq, alt, opt, star, plus, count, Matches, this, then, left, right, skip, take, stop, more, some, mark, Marked}
use Rattle.content_laws.specs.Within.{Within}
use Rattle.paper.specs.Rules.{at}

-- every expression has a word
pub some_word : (e : Expr) → (w : List ℕ) × Matches e w
some_word (name a) = (a ∷ [], this)
some_word (seq e f) = let (u, m) = some_word e in let (v, n) = some_word f in (u ++ v, then m n)
some_word (alt e f) = let (u, m) = some_word e in (u, left m)
some_word (opt e) = ([], skip)
some_word (star e) = ([], stop)
some_word (plus e) = let (u, m) = some_word e in (u ++ [], some m stop)

-- a marked word that reads occurrence k
abbrev pub WordWith : ℕ → Expr → ℕ → Type 0
WordWith b e k = (u : List ℕ) × (v : List ℕ) × Marked b e (u ++ k ∷ v)

-- whether k is one of the first m of m + n numbers
side : {b m n k : ℕ} {X : Type 0} → Within b (m + n) k → (Within b m k → X) → (Within (b + m) n k → X) → X
side {b} {m} {n} {k} i f g = elim (dec_lt k (b + m)) [ yes h ↦ f (omega arith) | no h ↦ g (omega arith) ]

pub useful : (b : ℕ) (e : Expr) (k : ℕ) → Within b (count e) k → WordWith b e k
useful b (name a) k i = let c : k ≡ b = omega arith in ([], [], rw c this)
useful b (seq e f) k i =
    side i
    (λ h.
    let (u, v, m) = useful b e k h in
    let (w, n) = some_word (mark (b + count e) f) in
    (u, v ++ w, rw append_assoc at (then m n)))
    (λ h.
    let (u, v, n) = useful (b + count e) f k h in
    let (w, m) = some_word (mark b e) in
    (w ++ u, v, rw append_assoc (then m n)))
useful b (alt e f) k i =
    side i (λ h. let (u, v, m) = useful b e k h in (u, v, left m)) (λ h. let (u, v, m) = useful (b + count e) f k h in (u, v, right m))
useful b (opt e) k i = let (u, v, m) = useful b e k i in (u, v, take m)
useful b (star e) k i = let (u, v, m) = useful b e k i in (u, v, rw append-nil at (more m stop))
useful b (plus e) k i = let (u, v, m) = useful b e k i in (u, v, rw append-nil at (some m stop))
