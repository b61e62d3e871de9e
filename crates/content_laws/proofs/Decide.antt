-- A test for ambiguity that computes: look for two occurrences of one name in each of Glushkov's sets. Assumes nothing.
use Rattle.std.specs.Prelude.{◌≡◌, ◌↔◌, ◌⊎◌, ◌&&◌, ℕ, ◌<◌, T, eqb}
use Rattle.std.proofs.Common.{sym, inl, inr, arith, eqb→eq}
use Rattle.std.proofs.Math.Decide.{dec_lt}
use Rattle.std.proofs.Math.Dec.{eqb_refl}
use Rattle.paper.specs.Expressions.{Expr, count, name_at, Ambiguous}
use Rattle.paper.specs.Sets.{Set, first, follow, clash, ambiguous}
use Rattle.content_laws.specs.Within.{Within, first_within, follow_within}
use Rattle.paper.specs.Basics.{any}
use Rattle.basic_laws.specs.Tests.{or_iff, and_iff, tests}
use Rattle.content_laws.specs.Below.{any_iff}
use Rattle.content_laws.specs.Ambiguity.{Clash}
use Rattle.content_laws.proofs.Ambiguity.{ambiguous_iff}

clash_to : (e : Expr) (S : Set) → T (clash e S) → Clash e S
clash_to e S t =
    let (y, i, ty) = (any_iff _ (count e)).0 t in
    let (sy, rest) = simp and_iff at ty in
    let (x, j, tx) = (any_iff _ y).0 rest in
    let (sx, c) = simp and_iff at tx in
    (x, y, sx, sy, record { differ = omega arith; same = eqb→eq _ _ c })

module _ (e : Expr) (S : Set) (inside : (k : ℕ) → T (S k) → Within 0 (count e) k) where
  clash_at : (x y : ℕ) → x < y → T (S x) → T (S y) → name_at e x ≡ name_at e y → T (clash e S)
  clash_at x y i sx sy c =
      let w = inside y sy in
      let same : T (eqb (name_at e x) (name_at e y)) = rw c (eqb_refl (name_at e y)) in
      let found = (any_iff (λ x. S x && eqb (name_at e x) (name_at e y)) y).1 (x, i, search tests) in
      (any_iff (λ y. S y && any (λ x. S x && eqb (name_at e x) (name_at e y)) y) (count e)).1 (y, omega arith, search tests)

  clash_of : Clash e S → T (clash e S)
  clash_of (x, y, sx, sy, tw) = elim (dec_lt x y) [
    | yes i ↦ clash_at x y i sx sy tw.same
    | no i ↦ let d = tw.differ in clash_at y x (omega arith) sy sx (sym tw.same)
  ]

-- the test is right
pub decides : (e : Expr) → T (ambiguous e) ↔ Ambiguous e
decides e = (λ t. (ambiguous_iff e).1 (to t), λ a. of ((ambiguous_iff e).0 a))
  where
    to : T (ambiguous e) → Clash e (first 0 e) ⊎ ((k : ℕ) × Clash e (follow 0 e k))
    to t = elim (simp or_iff at t) [
      | inl s ↦ inl (clash_to e (first 0 e) s)
      | inr s ↦ let (k, i, c) = (any_iff _ (count e)).0 s in inr (k, clash_to e (follow 0 e k) c)
    ]

    of : Clash e (first 0 e) ⊎ ((k : ℕ) × Clash e (follow 0 e k)) → T (ambiguous e)
    of (inl c) = let s = clash_of e (first 0 e) (first_within 0 e) c in search tests
    of (inr (k, c)) =
        let w = (follow_within 0 e k c.0 c.2).0 in
        let s = (any_iff (λ k. clash e (follow 0 e k)) (count e)).1 (k, omega arith, clash_of e (follow 0 e k) (λ x t. (follow_within 0 e k x t).1) c) in
        search tests
