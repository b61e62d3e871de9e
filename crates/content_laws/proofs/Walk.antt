-- Walks of Glushkov's automaton in parts, and a walk of one automaton in another. Assumes nothing.
use Rattle.std.specs.Prelude.{◌≡◌, refl, ◌↔◌, ℕ, List, [], ◌∷◌, ◌++◌, T}
use Rattle.paper.specs.Expressions.{Expr, count}
use Rattle.paper.specs.Sets.{last, follow}
use Rattle.content_laws.specs.Within.{Within}
use Rattle.paper.specs.Rules.{State, at}
use Rattle.content_laws.specs.Walk.{next, ends, Walk, Reads, after, next_of}

-- ---- a walk in parts

module _ (b : ℕ) (e : Expr) where
  pub walk_iff : (s : State) (p : List ℕ) → Walk b e s p ↔ (Reads b e s p × T (ends b e (after s p)))
  walk_iff s [] = (λ w. (tt, w), λ h. h.1)
  walk_iff s (x ∷ p) =
      let ih = walk_iff (at x) p in
      (λ w. let (r, t) = ih.0 w.1 in ((w.0, r), t), λ h. (h.0.0, ih.1 (h.0.1, h.1)))

  pub walk_append : (s : State) (p q : List ℕ) → Walk b e s (p ++ q) ↔ (Reads b e s p × Walk b e (after s p) q)
  walk_append s [] q = (λ w. (tt, w), λ h. h.1)
  walk_append s (x ∷ p) q =
      let ih = walk_append (at x) p q in
      (λ w. let (r, t) = ih.0 w.1 in ((w.0, r), t), λ h. (h.0.0, ih.1 (h.0.1, h.1)))

  pub reads_append : (s : State) (p q : List ℕ) → Reads b e s (p ++ q) ↔ (Reads b e s p × Reads b e (after s p) q)
  reads_append s [] q = (λ w. (tt, w), λ h. h.1)
  reads_append s (x ∷ p) q =
      let ih = reads_append (at x) p q in
      (λ w. let (r, t) = ih.0 w.1 in ((w.0, r), t), λ h. (h.0.0, ih.1 (h.0.1, h.1)))

pub after_append : (s : State) (p q : List ℕ) → after s (p ++ q) ≡ after (after s p) q
after_append s [] q = refl
after_append s (x ∷ p) q = after_append (at x) p q

-- ---- a walk of one automaton (a, d) in another (b, e)

-- The second has the steps and the ends of the first at its own occurrences: so it has the walk, once it is at k.
module _ (a : ℕ) (d : Expr) (b : ℕ) (e : Expr)
    (step : (j k : ℕ) → Within b (count e) j → T (follow a d j k) → T (follow b e j k))
    (stop : (j : ℕ) → Within b (count e) j → T (last a d j) → T (last b e j))
  where
    pub carry : (s : State) (k : ℕ) (p : List ℕ) → T (next b e s k) → Walk a d (at k) p → Walk b e s (k ∷ p)
    carry s k [] t w = (t, stop k (next_of b e s k t) w)
    carry s k (l ∷ p) t (u, w) = (t, carry (at k) l p (step k l (next_of b e s k t) u) w)

-- The second has the steps of the first, and goes on along v where the first ends.
module _ (a : ℕ) (d : Expr) (b : ℕ) (e : Expr) (v : List ℕ)
    (step : (s : State) (k : ℕ) → T (next a d s k) → T (next b e s k))
    (onward : (s : State) → T (ends a d s) → Walk b e s v)
  where
    pub join : (s : State) (u : List ℕ) → Walk a d s u → Walk b e s (u ++ v)
    join s [] t = onward s t
    join s (k ∷ u) t = (step s k t.0, join (at k) u t.1)
