-- Tests as facts: `T (a || b)` is one or the other, `T (a && b)` is both.
-- `simp or_iff at t` and `simp and_iff at t` take a test t apart; `search tests` proves one from its parts. Assumes nothing.
use Rattle.std.specs.Prelude.{◌≡◌, refl, ◌⊎◌, ◌↔◌, Bool, true, false, ◌&&◌, ◌||◌, T}
use Rattle.std.proofs.Common.{inl, inr}
use Rattle.std.proofs.lemmas.Bool.{false≢true}

-- a fact is an equation
pub true_iff : (b : Bool) → (b ≡ true) ↔ T b
true_iff true = (λ e. tt, λ t. refl)
true_iff false = (λ e. absurd (false≢true e), λ t. absurd t)

-- taken apart
pub or_iff : (a b : Bool) → T (a || b) ↔ (T a ⊎ T b)
or_iff true b = (inl, λ t. tt)
or_iff false b = (inr, elim [ inl h ↦ absurd h | inr h ↦ h ])

pub or3_iff : (a b c : Bool) → T (a || b || c) ↔ (T a ⊎ T b ⊎ T c)
or3_iff true b c = (inl, λ t. tt)
or3_iff false true c = (λ t. inr (inl t), λ t. tt)
or3_iff false false c = (λ t. inr (inr t), elim [ inl h ↦ absurd h | inr (inl h) ↦ absurd h | inr (inr h) ↦ h ])

pub and_iff : (a b : Bool) → T (a && b) ↔ (T a × T b)
and_iff true b = (λ t. (tt, t), λ t. t.1)
and_iff false b = (λ t. absurd t, λ t. t.0)

-- put together
pub or_l : (a b : Bool) → T a → T (a || b)
or_l true b t = t
or_l false b t = elim t [ ]

pub or_r : (a b : Bool) → T b → T (a || b)
or_r true b t = tt
or_r false b t = t

pub both : (a b : Bool) → T a → T b → T (a && b)
both true b s t = t
both false b s t = elim s [ ]

pub ruleset tests = (or_l, or_r, both)
