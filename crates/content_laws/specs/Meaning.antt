-- What an expression means: `Matches e w` says that the word w, a list of element numbers, is one of e's. Below it, a match
-- is taken apart by the form of its expression. Assumes nothing.
use Rattle.std.specs.Prelude.{◌≡◌, refl, ◌⊎◌, ℕ, List, [], ◌∷◌, ◌++◌}
use Rattle.std.proofs.Common.{inl, inr}
use Rattle.paper.specs.Expressions.{Expr, name, seq, alt, opt, star, plus, Matches, this, then, left, right, skip, take, stop, more, some}

-- two parts of a word, the first with P and the second with Q
abbrev pub Split : (P Q : List ℕ → Type 0) → List ℕ → Type 0
Split P Q w = (u : List ℕ) × (v : List ℕ) × (w ≡ u ++ v) × P u × Q v

pub of_name : {a : ℕ} {w : List ℕ} → Matches (name a) w → w ≡ a ∷ []
of_name this = refl

pub of_seq : {e f : Expr} {w : List ℕ} → Matches (seq e f) w → Split (Matches e) (Matches f) w
of_seq (then {u = u} {v = v} m n) = (u, v, refl, m, n)

pub of_alt : {e f : Expr} {w : List ℕ} → Matches (alt e f) w → Matches e w ⊎ Matches f w
of_alt (left m) = inl m
of_alt (right m) = inr m

pub of_opt : {e : Expr} {w : List ℕ} → Matches (opt e) w → (w ≡ []) ⊎ Matches e w
of_opt skip = inl refl
of_opt (take m) = inr m

pub of_plus : {e : Expr} {w : List ℕ} → Matches (plus e) w → Split (Matches e) (Matches (star e)) w
of_plus (some {u = u} {v = v} m n) = (u, v, refl, m, n)

-- induction along the rounds of a star
pub of_star : {e : Expr} (P : List ℕ → Type 0) → P [] → ((u v : List ℕ) → Matches e u → P v → P (u ++ v))
    → {w : List ℕ} → Matches (star e) w → P w
of_star P z s stop = z
of_star P z s (more {u = u} {v = v} m n) = s u v m (of_star P z s n)
