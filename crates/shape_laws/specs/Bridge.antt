-- From buffers of numbers to lists of tokens. Assumes nothing.
use Rattle.std.specs.Prelude.{◌≡◌, refl, List, [], ◌∷◌, ◌++◌, ℕ, zero, suc, ◌+◌, ◌≤◌, length, take, drop}
use Rattle.std.proofs.Common.{ap, ap₂, ◌∙◌, not-suc-le-zero, le_of_suc-le-suc}
use Rattle.std.proofs.lemmas.List.{map-append}
use Rattle.paper.specs.Edits.{splice}
use Rattle.paper.specs.Tokens.{tok_of, toks}

pub length_toks : (buf : List ℕ) (used : ℕ) → used ≤ length buf → length (toks (take used buf)) ≡ used
length_toks buf zero h = refl
length_toks [] (suc used) h = absurd (not-suc-le-zero h)
length_toks (x ∷ buf) (suc used) h = ap suc (length_toks buf used (le_of_suc-le-suc h))

pub toks_take : (n : ℕ) (a : List ℕ) → toks (take n a) ≡ take n (toks a)
toks_take zero a = refl
toks_take (suc n) [] = refl
toks_take (suc n) (x ∷ a) = ap (λ r. tok_of x ∷ r) (toks_take n a)

pub toks_drop : (n : ℕ) (a : List ℕ) → toks (drop n a) ≡ drop n (toks a)
toks_drop zero a = refl
toks_drop (suc n) [] = refl
toks_drop (suc n) (x ∷ a) = toks_drop n a

pub toks_splice : (at n : ℕ) (piece d : List ℕ) → toks (take at d ++ (piece ++ drop (at + n) d)) ≡ splice at n (toks piece) (toks d)
toks_splice at n piece d =
    map-append tok_of (take at d) (piece ++ drop (at + n) d)
    ∙ ap₂ ◌++◌ (toks_take at d) (map-append tok_of piece (drop (at + n) d) ∙ ap (λ r. toks piece ++ r) (toks_drop (at + n) d))
