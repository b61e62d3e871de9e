-- A walk of `opt e` is empty or a walk of e; one of `star e` or `plus e` is made of rounds, each a walk of e.
-- Assumes nothing.
use Rattle.std.specs.Prelude.{◌≡◌, refl, ◌⊎◌, ℕ, List, [], ◌∷◌, ◌++◌, T}
use Rattle.std.proofs.Common.{ap, inl, inr}
use Rattle.paper.specs.Expressions.{Expr, opt, star, plus, stop, more, some, Marked}
use Rattle.content_laws.specs.Meaning.{Split}
use Rattle.paper.specs.Sets.{first}
use Rattle.paper.specs.Rules.{State, start, at}
use Rattle.basic_laws.specs.Tests.{or_iff, and_iff, tests}
use Rattle.content_laws.specs.Walk.{next, ends, Walk}
use Rattle.content_laws.proofs.Walk.{carry, join}

module _ (b : ℕ) (e : Expr) where
  pub opt_walk : (p : List ℕ) → Walk b e start p → Walk b (opt e) start p
  opt_walk [] t = tt
  opt_walk (k ∷ q) (t, w) = carry b e b (opt e) (λ j k _ t. t) (λ j _ t. t) start k q t w

  pub opt_split : (p : List ℕ) → Walk b (opt e) start p → (p ≡ []) ⊎ Walk b e start p
  opt_split [] t = inl refl
  opt_split (k ∷ q) (t, w) = inr (carry b (opt e) b e (λ j k _ t. t) (λ j _ t. t) start k q t w)

  -- ---- from the rounds

  star_step : (s : State) (k : ℕ) → T (next b e s k) → T (next b (star e) s k)
  star_step start k t = t
  star_step (at j) k t = search tests

  star_link : (s : State) (k : ℕ) → T (ends b e s) → T (first b e k) → T (next b (star e) s k)
  star_link start k t u = u
  star_link (at j) k t u = search tests

  star_onward : (v : List ℕ) → Walk b (star e) start v → (s : State) → T (ends b e s) → Walk b (star e) s v
  star_onward [] n start t = tt
  star_onward [] n (at j) t = t
  star_onward (k ∷ q) n s t = (star_link s k t n.0, n.1)

  pub star_walk : (u v : List ℕ) → Walk b e start u → Walk b (star e) start v → Walk b (star e) start (u ++ v)
  star_walk u v m n = join b e b (star e) v star_step (star_onward v n) start u m

  -- but for the empty word, star and plus have the same walks
  star_plus : (k : ℕ) (q : List ℕ) → Walk b (star e) start (k ∷ q) → Walk b (plus e) start (k ∷ q)
  star_plus k q (t, w) = carry b (star e) b (plus e) (λ j k _ t. t) (λ j _ t. t) start k q t w

  plus_star : (k : ℕ) (q : List ℕ) → Walk b (plus e) start (k ∷ q) → Walk b (star e) start (k ∷ q)
  plus_star k q (t, w) = carry b (plus e) b (star e) (λ j k _ t. t) (λ j _ t. t) start k q t w

  pub plus_walk : (u v : List ℕ) → Walk b e start u → Walk b (star e) start v → Walk b (plus e) start (u ++ v)
  plus_walk [] [] m n = m
  plus_walk [] (k ∷ q) m n = star_plus k q n
  plus_walk (k ∷ p) v m n = star_plus k (p ++ v) (star_walk (k ∷ p) v m n)

  -- ---- into the rounds

  module _ (each : (p : List ℕ) → Walk b e start p → Marked b e p) where
    -- the rest of the round that has come to j, and a match of the rounds after it
    rounds : (j : ℕ) (p : List ℕ) → Walk b (star e) (at j) p → Split (Walk b e (at j)) (Marked b (star e)) p
    rounds j [] t = ([], [], refl, t, stop)
    rounds j (k ∷ q) (t, w) =
        let (u, v, c, m, n) = rounds k q w in
        elim (simp or_iff at t) [
          | inl s ↦ (k ∷ u, v, ap {B = List ℕ} (λ r. k ∷ r) c, (s, m), n)
          | inr s ↦ let (x, y) = simp and_iff at s in ([], k ∷ q, refl, x, rw c (more (each (k ∷ u) (y, m)) n))
        ]

    -- the first round, and a match of the others
    first_round : (k : ℕ) (q : List ℕ) → Walk b (star e) start (k ∷ q) → Split (Marked b e) (Marked b (star e)) (k ∷ q)
    first_round k q (t, w) =
        let (u, v, c, m, n) = rounds k q w in
        (k ∷ u, v, ap {B = List ℕ} (λ r. k ∷ r) c, each (k ∷ u) (t, m), n)

    pub star_match : (p : List ℕ) → Walk b (star e) start p → Marked b (star e) p
    star_match [] t = stop
    star_match (k ∷ q) w = let (u, v, c, m, n) = first_round k q w in rw c (more m n)

    pub plus_match : (p : List ℕ) → Walk b (plus e) start p → Marked b (plus e) p
    plus_match [] t = some (each [] t) stop
    plus_match (k ∷ q) w = let (u, v, c, m, n) = first_round k q (plus_star k q w) in rw c (some m n)
