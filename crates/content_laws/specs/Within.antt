-- The sets of an expression whose occurrences are numbered from b hold numbers of [b, b + count) only. Assumes nothing.
use Rattle.std.specs.Prelude.{ℕ, ◌+◌, ◌≤◌, ◌<◌, ◌⊎◌, ◌&&◌, T}
use Rattle.std.proofs.Common.{inl, inr, arith, eqb→eq}
use Rattle.paper.specs.Expressions.{Expr, name, seq, alt, opt, star, plus, count}
use Rattle.paper.specs.Sets.{first, last, follow}
use Rattle.basic_laws.specs.Tests.{or_iff, or3_iff, and_iff}

-- k is one of the n numbers from b on
pub record Within (b n k : ℕ) : Type 0 where
  pub low : b ≤ k
  pub high : k < b + n

-- the first m of m + n numbers, and the last n
pub widen_left : {b m k : ℕ} (n : ℕ) → Within b m k → Within b (m + n) k
widen_left n w = omega arith

pub widen_right : {b n k : ℕ} (m : ℕ) → Within (b + m) n k → Within b (m + n) k
widen_right m w = omega arith

pub apart : {b m n k : ℕ} → Within b m k → Within (b + m) n k → ⊥
apart v w = omega arith

pub first_within : (b : ℕ) (e : Expr) (k : ℕ) → T (first b e k) → Within b (count e) k
first_within b (name a) k t = omega (arith, eqb→eq k b t)
first_within b (seq e f) k t = elim (simp or_iff at t) [
  | inl s ↦ widen_left (count f) (first_within b e k s)
  | inr s ↦ widen_right (count e) (first_within (b + count e) f k (simp and_iff at s).1)
]
first_within b (alt e f) k t = elim (simp or_iff at t) [
  | inl s ↦ widen_left (count f) (first_within b e k s)
  | inr s ↦ widen_right (count e) (first_within (b + count e) f k s)
]
first_within b (opt e) k t = first_within b e k t
first_within b (star e) k t = first_within b e k t
first_within b (plus e) k t = first_within b e k t

pub last_within : (b : ℕ) (e : Expr) (k : ℕ) → T (last b e k) → Within b (count e) k
last_within b (name a) k t = omega (arith, eqb→eq k b t)
last_within b (seq e f) k t = elim (simp or_iff at t) [
  | inl s ↦ widen_right (count e) (last_within (b + count e) f k s)
  | inr s ↦ widen_left (count f) (last_within b e k (simp and_iff at s).1)
]
last_within b (alt e f) k t = elim (simp or_iff at t) [
  | inl s ↦ widen_left (count f) (last_within b e k s)
  | inr s ↦ widen_right (count e) (last_within (b + count e) f k s)
]
last_within b (opt e) k t = last_within b e k t
last_within b (star e) k t = last_within b e k t
last_within b (plus e) k t = last_within b e k t

-- both ends of a step
abbrev pub Both : ℕ → ℕ → ℕ → ℕ → Type 0
Both b n j k = Within b n j × Within b n k

round_within : (b : ℕ) (e : Expr) (j k : ℕ) → (T (follow b e j k) → Both b (count e) j k)
    → T (follow b e j k) ⊎ T (last b e j && first b e k) → Both b (count e) j k
round_within b e j k step (inl s) = step s
round_within b e j k step (inr s) = let (l, r) = simp and_iff at s in (last_within b e j l, first_within b e k r)

pub follow_within : (b : ℕ) (e : Expr) (j k : ℕ) → T (follow b e j k) → Both b (count e) j k
follow_within b (name a) j k t = absurd t
follow_within b (seq e f) j k t = elim (simp or3_iff at t) [
  | inl s ↦ let (x, y) = follow_within b e j k s in (widen_left (count f) x, widen_left (count f) y)
  | inr (inl s) ↦ let (x, y) = follow_within (b + count e) f j k s in (widen_right (count e) x, widen_right (count e) y)
  | inr (inr s) ↦
      let (x, y) = simp and_iff at s in
      (widen_left (count f) (last_within b e j x), widen_right (count e) (first_within (b + count e) f k y))
]
follow_within b (alt e f) j k t = elim (simp or_iff at t) [
  | inl s ↦ let (x, y) = follow_within b e j k s in (widen_left (count f) x, widen_left (count f) y)
  | inr s ↦ let (x, y) = follow_within (b + count e) f j k s in (widen_right (count e) x, widen_right (count e) y)
]
follow_within b (opt e) j k t = follow_within b e j k t
follow_within b (star e) j k t = round_within b e j k (follow_within b e j k) (simp or_iff at t)
follow_within b (plus e) j k t = round_within b e j k (follow_within b e j k) (simp or_iff at t)
