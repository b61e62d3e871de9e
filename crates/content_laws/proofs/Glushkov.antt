-- Glushkov's theorem: the marked words of an expression are the walks of its automaton from the start. Assumes nothing.
use Rattle.std.specs.Prelude.{◌↔◌, ℕ, ◌+◌, List, [], ◌∷◌}
use Rattle.std.proofs.Common.{inl, inr, eqb→eq}
use Rattle.std.proofs.Math.Dec.{eqb_refl}
use Rattle.paper.specs.Expressions.{Expr, name, seq, alt, opt, star, plus, count, this, then, left, right, skip, take, Marked}
use Rattle.content_laws.specs.Meaning.{of_name, of_seq, of_alt, of_opt, of_star, of_plus}
use Rattle.paper.specs.Rules.{start}
use Rattle.content_laws.specs.Walk.{Walk}
use Rattle.content_laws.proofs.Seq.{seq_walk, seq_split}
use Rattle.content_laws.proofs.Alt.{alt_left, alt_right, alt_split}
use Rattle.content_laws.proofs.Star.{opt_walk, opt_split, star_walk, plus_walk, star_match, plus_match}

star_of : (b : ℕ) (e : Expr) → ((p : List ℕ) → Marked b e p → Walk b e start p)
    → (p : List ℕ) → Marked b (star e) p → Walk b (star e) start p
star_of b e each p m = of_star (Walk b (star e) start) tt (λ u v n w. star_walk b e u v (each u n) w) m

walk_of : (b : ℕ) (e : Expr) (p : List ℕ) → Marked b e p → Walk b e start p
walk_of b (name a) p m = rw (of_name m) (eqb_refl b, eqb_refl b)
walk_of b (seq e f) p m =
    let (u, v, c, m₁, m₂) = of_seq m in
    rw c (seq_walk b e f u v (walk_of b e u m₁) (walk_of (b + count e) f v m₂))
walk_of b (alt e f) p m = elim (of_alt m) [
  | inl n ↦ alt_left b e f p (walk_of b e p n)
  | inr n ↦ alt_right b e f p (walk_of (b + count e) f p n)
]
walk_of b (opt e) p m = elim (of_opt m) [ inl c ↦ rw c tt | inr n ↦ opt_walk b e p (walk_of b e p n) ]
walk_of b (star e) p m = star_of b e (walk_of b e) p m
walk_of b (plus e) p m =
    let (u, v, c, m₁, m₂) = of_plus m in
    rw c (plus_walk b e u v (walk_of b e u m₁) (star_of b e (walk_of b e) v m₂))

match_of : (b : ℕ) (e : Expr) (p : List ℕ) → Walk b e start p → Marked b e p
match_of b (name a) [] w = absurd w
match_of b (name a) (k ∷ []) w = rw (eqb→eq k b w.0) this
match_of b (name a) (k ∷ l ∷ q) w = absurd w.1.0
match_of b (seq e f) p w =
    let (u, v, c, w₁, w₂) = seq_split b e f start p tt w in
    rw c (then (match_of b e u w₁) (match_of (b + count e) f v w₂))
match_of b (alt e f) p w = elim (alt_split b e f p w) [
  | inl x ↦ left (match_of b e p x)
  | inr x ↦ right (match_of (b + count e) f p x)
]
match_of b (opt e) p w = elim (opt_split b e p w) [ inl c ↦ rw c skip | inr x ↦ take (match_of b e p x) ]
match_of b (star e) p w = star_match b e (match_of b e) p w
match_of b (plus e) p w = plus_match b e (match_of b e) p w

pub glushkov : (b : ℕ) (e : Expr) (p : List ℕ) → Marked b e p ↔ Walk b e start p
glushkov b e p = (walk_of b e p, match_of b e p)
