-- Tests as equations. What else there is stands in `mathlib.Core.Bool`: `and-eq-true_iff` takes `a && b ≡ true` apart, and `and-true`,
-- `and-false`, `or-true`, `or-false`, `and_assoc`, `or_assoc`, `and_comm`, `or_comm` compute. Assumes nothing.
use Rattle.std.specs.Prelude.{◌≡◌, refl, Bool, true, false, not, ◌&&◌, ◌||◌, ◌⊎◌, ◌↔◌}
use Rattle.std.proofs.Common.{sym, ◌∙◌, true≢false, inl, inr}

-- a test that holds and fails proves anything
pub clash {ℓ} : {A : Type ℓ} {b : Bool} → b ≡ true → b ≡ false → A
clash p q = absurd (true≢false (sym p ∙ q))

-- two that hold, hold together
pub both : {a b : Bool} → a ≡ true → b ≡ true → (a && b) ≡ true
both p q = rw (p, q)

-- of two that hold as one or the other, one holds
pub either : (a b : Bool) → (a || b) ≡ true → (a ≡ true) ⊎ (b ≡ true)
either true b e = inl refl
either false b e = inr e

-- where neither holds, both fail
pub neither : (a b : Bool) → (a || b) ≡ false → (a ≡ false) × (b ≡ false)
neither true b e = clash refl e
neither false b e = (refl, e)

-- two tests that imply each other are the same
pub same_test : (a b : Bool) → (a ≡ true → b ≡ true) → (b ≡ true → a ≡ true) → a ≡ b
same_test true b f g = sym (f refl)
same_test false true f g = g refl
same_test false false f g = refl

-- a test that cannot hold fails
pub fails : (b : Bool) → (b ≡ true → ⊥) → b ≡ false
fails true f = absurd (f refl)
fails false f = refl

-- a test that implies another is their meet
pub meet : (a b : Bool) → (a ≡ true → b ≡ true) → (a && b) ≡ a
meet true b f = f refl
meet false b f = refl

-- `not a || b` says that b holds where a does
pub implies : (a b : Bool) → (not a || b ≡ true) ↔ (a ≡ true → b ≡ true)
implies true b = (λ e q. e, λ f. f refl)
implies false b = (λ e q. clash q refl, λ f. refl)
