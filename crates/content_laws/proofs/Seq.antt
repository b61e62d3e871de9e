-- A walk of `seq e f` is a walk of e and then one of f. Assumes nothing.
use Rattle.std.specs.Prelude.{refl, ◌⊎◌, ℕ, ◌+◌, List, [], ◌∷◌, ◌++◌, T}
use Rattle.std.proofs.Common.{ap, inl, inr}
use Rattle.paper.specs.Expressions.{Expr, seq, count}
use Rattle.content_laws.specs.Meaning.{Split}
use Rattle.paper.specs.Sets.{nullable, first, last, follow}
use Rattle.content_laws.specs.Within.{Within, apart, last_within, follow_within}
use Rattle.paper.specs.Rules.{State, start, at}
use Rattle.basic_laws.specs.Tests.{or_iff, or3_iff, and_iff, tests}
use Rattle.content_laws.specs.Walk.{next, ends, Walk, Of, next_of}
use Rattle.content_laws.proofs.Walk.{carry, join}

module _ (b : ℕ) (e f : Expr) where
  -- where the occurrences of f start
  abbrev mid : ℕ
  mid = b + count e

  -- ---- from the parts

  seq_step : (s : State) (k : ℕ) → T (next b e s k) → T (next b (seq e f) s k)
  seq_step start k t = search tests
  seq_step (at j) k t = search tests

  seq_link : (s : State) (k : ℕ) → T (ends b e s) → T (first mid f k) → T (next b (seq e f) s k)
  seq_link start k t u = search tests
  seq_link (at j) k t u = search tests

  seq_ends : (s : State) → T (ends b e s) → T (nullable f) → T (ends b (seq e f) s)
  seq_ends start t u = search tests
  seq_ends (at j) t u = search tests

  seq_onward : (v : List ℕ) → Walk mid f start v → (s : State) → T (ends b e s) → Walk b (seq e f) s v
  seq_onward [] n s t = seq_ends s t n
  seq_onward (k ∷ q) n s t =
      carry mid f b (seq e f) (λ j k _ t. search tests) (λ j _ t. search tests) s k q (seq_link s k t n.0) n.1

  pub seq_walk : (u v : List ℕ) → Walk b e start u → Walk mid f start v → Walk b (seq e f) start (u ++ v)
  seq_walk u v m n = join b e b (seq e f) v seq_step (seq_onward v n) start u m

  -- ---- into the parts

  seq_next : (s : State) (k : ℕ) → Of b e s → T (next b (seq e f) s k) → T (next b e s k) ⊎ (T (ends b e s) × T (first mid f k))
  seq_next start k i t = elim (simp or_iff at t) [ inl s ↦ inl s | inr s ↦ inr (simp and_iff at s) ]
  seq_next (at j) k i t = elim (simp or3_iff at t) [
    | inl s ↦ inl s
    | inr (inl s) ↦ absurd (apart i (follow_within mid f j k s).0)
    | inr (inr s) ↦ inr (simp and_iff at s)
  ]

  seq_end : (s : State) → Of b e s → T (ends b (seq e f) s) → T (ends b e s) × T (nullable f)
  seq_end start i t = simp and_iff at t
  seq_end (at j) i t = elim (simp or_iff at t) [
    | inl s ↦ absurd (apart i (last_within mid f j s))
    | inr s ↦ let (y, x) = simp and_iff at s in (x, y)
  ]

  stays_right : (j k : ℕ) → Within mid (count f) j → T (follow b (seq e f) j k) → T (follow mid f j k)
  stays_right j k i t = elim (simp or3_iff at t) [
    | inl s ↦ absurd (apart (follow_within b e j k s).0 i)
    | inr (inl s) ↦ s
    | inr (inr s) ↦ absurd (apart (last_within b e j (simp and_iff at s).0) i)
  ]

  ends_right : (j : ℕ) → Within mid (count f) j → T (last b (seq e f) j) → T (last mid f j)
  ends_right j i t = elim (simp or_iff at t) [
    | inl s ↦ s
    | inr s ↦ absurd (apart (last_within b e j (simp and_iff at s).1) i)
  ]

  pub seq_split : (s : State) (p : List ℕ) → Of b e s → Walk b (seq e f) s p → Split (Walk b e s) (Walk mid f start) p
  seq_split s [] i t = let (x, y) = seq_end s i t in ([], [], refl, x, y)
  seq_split s (k ∷ q) i (t, w) = elim (seq_next s k i t) [
    | inl x ↦
        let (u, v, c, m, n) = seq_split (at k) q (next_of b e s k x) w in
        (k ∷ u, v, ap {B = List ℕ} (λ r. k ∷ r) c, (x, m), n)
    | inr h ↦ ([], k ∷ q, refl, h.0, carry b (seq e f) mid f stays_right ends_right start k q h.1 w)
  ]
