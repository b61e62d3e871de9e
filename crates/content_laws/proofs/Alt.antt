-- A walk of `alt e f` is a walk of e or one of f. Assumes nothing.
use Rattle.std.specs.Prelude.{◌⊎◌, ℕ, ◌+◌, List, [], ◌∷◌, T}
use Rattle.std.proofs.Common.{inl, inr}
use Rattle.paper.specs.Expressions.{Expr, alt, count}
use Rattle.paper.specs.Sets.{last, follow}
use Rattle.content_laws.specs.Within.{Within, apart, last_within, follow_within}
use Rattle.paper.specs.Rules.{start}
use Rattle.basic_laws.specs.Tests.{or_iff, tests}
use Rattle.content_laws.specs.Walk.{Walk}
use Rattle.content_laws.proofs.Walk.{carry}

module _ (b : ℕ) (e f : Expr) where
  abbrev mid : ℕ
  mid = b + count e

  -- ---- from a part

  pub alt_left : (p : List ℕ) → Walk b e start p → Walk b (alt e f) start p
  alt_left [] t = search tests
  alt_left (k ∷ q) (t, w) = carry b e b (alt e f) (λ j k _ t. search tests) (λ j _ t. search tests) start k q (search tests) w

  pub alt_right : (p : List ℕ) → Walk mid f start p → Walk b (alt e f) start p
  alt_right [] t = search tests
  alt_right (k ∷ q) (t, w) = carry mid f b (alt e f) (λ j k _ t. search tests) (λ j _ t. search tests) start k q (search tests) w

  -- ---- into a part

  stays_left : (j k : ℕ) → Within b (count e) j → T (follow b (alt e f) j k) → T (follow b e j k)
  stays_left j k i t = elim (simp or_iff at t) [ inl s ↦ s | inr s ↦ absurd (apart i (follow_within mid f j k s).0) ]

  ends_left : (j : ℕ) → Within b (count e) j → T (last b (alt e f) j) → T (last b e j)
  ends_left j i t = elim (simp or_iff at t) [ inl s ↦ s | inr s ↦ absurd (apart i (last_within mid f j s)) ]

  stays_right : (j k : ℕ) → Within mid (count f) j → T (follow b (alt e f) j k) → T (follow mid f j k)
  stays_right j k i t = elim (simp or_iff at t) [ inl s ↦ absurd (apart (follow_within b e j k s).0 i) | inr s ↦ s ]

  ends_right : (j : ℕ) → Within mid (count f) j → T (last b (alt e f) j) → T (last mid f j)
  ends_right j i t = elim (simp or_iff at t) [ inl s ↦ absurd (apart (last_within b e j s) i) | inr s ↦ s ]

  pub alt_split : (p : List ℕ) → Walk b (alt e f) start p → Walk b e start p ⊎ Walk mid f start p
  alt_split [] t = simp or_iff at t
  alt_split (k ∷ q) (t, w) = elim (simp or_iff at t) [
    | inl s ↦ inl (carry b (alt e f) b e stays_left ends_left start k q s w)
    | inr s ↦ inr (carry b (alt e f) mid f stays_right ends_right start k q s w)
  ]
