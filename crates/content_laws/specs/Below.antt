-- The members of a set below a bound: whether there is one, and one of them. Assumes nothing.
use Rattle.std.specs.Prelude.{◌≡◌, refl, ◌↔◌, ◌⊎◌, Bool, true, false, ℕ, zero, suc, ◌<◌, T}
use Rattle.std.proofs.Common.{inl, inr, arith}
use Rattle.std.proofs.Math.Option.{none, some}
use Rattle.std.proofs.Math.Decide.{ℕ_discrete}
use Rattle.paper.specs.Sets.{Set}
use Rattle.paper.specs.Basics.{any, find}
use Rattle.basic_laws.specs.Tests.{or_iff, tests}

any_to : (S : Set) (n : ℕ) → T (any S n) → (k : ℕ) × (k < n) × T (S k)
any_to S zero t = elim t [ ]
any_to S (suc n) t = elim (simp or_iff at t) [
  | inl s ↦ (n, omega arith, s)
  | inr s ↦ let (k, i, r) = any_to S n s in (k, omega arith, r)
]

any_of : (S : Set) (n k : ℕ) → k < n → T (S k) → T (any S n)
any_of S zero k i t = absurd (omega arith)
any_of S (suc n) k i t = elim (ℕ_discrete k n) [
  | yes c ↦ let s = rw c at t in search tests
  | no c ↦ let s = any_of S n k (omega arith) t in search tests
]

pub any_iff : (S : Set) (n : ℕ) → T (any S n) ↔ ((k : ℕ) × (k < n) × T (S k))
any_iff S n = (any_to S n, λ h. any_of S n h.0 h.1 h.2)

-- either one is found or there is none
abbrev pub Found : Set → ℕ → Type 0
Found S n = ((k : ℕ) × (find S n ≡ some k) × T (S k)) ⊎ ((find S n ≡ none) × ((k : ℕ) → k < n → ¬ T (S k)))

find_step : (S : Set) (n : ℕ) (c : Bool) → S n ≡ c → Found S n → Found S (suc n)
find_step S n true d h = inl (n, rw d, rw d tt)
find_step S n false d (inl (k, f, t)) = inl (k, rw d f, t)
find_step S n false d (inr (f, h)) = inr (rw d f, λ k i t. elim (ℕ_discrete k n) [ yes c ↦ rw (c, d) at t | no c ↦ h k (omega arith) t ])

pub find_cases : (S : Set) (n : ℕ) → Found S n
find_cases S zero = inr (refl, λ k i. absurd (omega arith))
find_cases S (suc n) = find_step S n (S n) refl (find_cases S n)
