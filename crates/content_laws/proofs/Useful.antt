-- Each state of the automaton is reached from the start and reaches an end; what can be read from the start is what some marked
-- word begins with; and the sets mean what their names say. Assumes nothing.
use Rattle.std.specs.Prelude.{◌≡◌, refl, ◌↔◌, ℕ, List, [], ◌∷◌, ◌++◌, T}
use Rattle.std.proofs.Common.{append_assoc}
use Rattle.paper.specs.Expressions.{Expr, mark, Marked}
use Rattle.paper.specs.Sets.{nullable, first, last, follow}
use Rattle.content_laws.specs.Within.{last_within, follow_within}
use Rattle.paper.specs.Rules.{State, start, at}
use Rattle.content_laws.specs.Walk.{next, Walk, Reads, after, Of, next_of}
use Rattle.content_laws.proofs.Walk.{walk_append, reads_append, after_append}
use Rattle.content_laws.proofs.Glushkov.{glushkov}
use Rattle.content_laws.specs.Useful.{some_word, useful}

-- ---- the states

-- each is reached from the start
pub reached : (b : ℕ) (e : Expr) (s : State) → Of b e s → (p : List ℕ) × Reads b e start p × (after start p ≡ s)
reached b e start i = ([], tt, refl)
reached b e (at k) i =
    let (u, v, m) = useful b e k i in
    let (r, w) = (walk_append b e start u (k ∷ v)).0 ((glushkov b e (u ++ k ∷ v)).0 m) in
    (u ++ k ∷ [], (reads_append b e start u (k ∷ [])).1 (r, (w.0, tt)), after_append start u (k ∷ []))

-- and reaches an end
pub reaches : (b : ℕ) (e : Expr) (s : State) → Of b e s → (p : List ℕ) × Walk b e s p
reaches b e start i = let (w, m) = some_word (mark b e) in (w, (glushkov b e w).0 m)
reaches b e (at k) i =
    let (u, v, m) = useful b e k i in
    (v, ((walk_append b e start u (k ∷ v)).0 ((glushkov b e (u ++ k ∷ v)).0 m)).1.1)

after_of : (b : ℕ) (e : Expr) (s : State) (p : List ℕ) → Of b e s → Reads b e s p → Of b e (after s p)
after_of b e s [] i r = i
after_of b e s (k ∷ p) i r = after_of b e (at k) p (next_of b e s k r.0) r.1

-- so what can be read from the start is what some marked word begins with
pub reads_iff : (b : ℕ) (e : Expr) (p : List ℕ) → Reads b e start p ↔ ((v : List ℕ) × Marked b e (p ++ v))
reads_iff b e p = (
  λ r.
      let (v, w) = reaches b e (after start p) (after_of b e start p tt r) in
      (v, (glushkov b e (p ++ v)).1 ((walk_append b e start p v).1 (r, w))),
  λ h. ((walk_append b e start p h.0).0 ((glushkov b e (p ++ h.0)).0 h.1)).0,
)

-- and k can come next after p exactly if some marked word begins with p and then k
pub next_iff : (b : ℕ) (e : Expr) (p : List ℕ) → Reads b e start p
    → (k : ℕ) → T (next b e (after start p) k) ↔ ((v : List ℕ) × Marked b e (p ++ k ∷ v))
next_iff b e p r k = (
  λ t.
      let (v, m) = (reads_iff b e (p ++ k ∷ [])).0 ((reads_append b e start p (k ∷ [])).1 (r, (t, tt))) in
      (v, rw append_assoc at m),
  λ h. ((walk_append b e start p (k ∷ h.0)).0 ((glushkov b e (p ++ k ∷ h.0)).0 h.1)).1.0,
)

-- ---- the sets mean what their names say

pub nullable_iff : (b : ℕ) (e : Expr) → T (nullable e) ↔ Marked b e []
nullable_iff b e = ((glushkov b e []).1, (glushkov b e []).0)

pub first_iff : (b : ℕ) (e : Expr) (k : ℕ) → T (first b e k) ↔ ((v : List ℕ) × Marked b e (k ∷ v))
first_iff b e k = next_iff b e [] tt k

pub last_iff : (b : ℕ) (e : Expr) (k : ℕ) → T (last b e k) ↔ ((u : List ℕ) × Marked b e (u ++ k ∷ []))
last_iff b e k = (
  λ t.
      let (u, v, m) = useful b e k (last_within b e k t) in
      let (r, w) = (walk_append b e start u (k ∷ v)).0 ((glushkov b e (u ++ k ∷ v)).0 m) in
      (u, (glushkov b e (u ++ k ∷ [])).1 ((walk_append b e start u (k ∷ [])).1 (r, (w.0, t)))),
  λ h. ((walk_append b e start h.0 (k ∷ [])).0 ((glushkov b e (h.0 ++ k ∷ [])).0 h.1)).1.1,
)

pub follow_iff : (b : ℕ) (e : Expr) (j k : ℕ) → T (follow b e j k) ↔ ((u : List ℕ) × (v : List ℕ) × Marked b e (u ++ j ∷ k ∷ v))
follow_iff b e j k = (
  λ t.
      let (u, v, m) = useful b e j (follow_within b e j k t).0 in
      let (r, w) = (walk_append b e start u (j ∷ v)).0 ((glushkov b e (u ++ j ∷ v)).0 m) in
      let (v', m') = (reads_iff b e (u ++ j ∷ k ∷ [])).0 ((reads_append b e start u (j ∷ k ∷ [])).1 (r, (w.0, (t, tt)))) in
      (u, v', rw append_assoc at m'),
  λ h. ((walk_append b e start h.0 (j ∷ k ∷ h.1)).0 ((glushkov b e (h.0 ++ j ∷ k ∷ h.1)).0 h.2)).1.1.0,
)
