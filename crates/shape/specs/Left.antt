-- What is left of one element of good shape, from a phase and a level on: token by token. Assumes nothing.
use Rattle.std.specs.Prelude.{◌≡◌, refl, Bool, true, false, ◌&&◌, List, [], ◌∷◌, ℕ, zero, suc, ◌≤◌, ◌<◌, max, leb, eqb, length}
use Rattle.std.proofs.Common.{sym, suc-add, zero-add, arith, le-leb, leb-true, leb-false, ne_eqb}
use Rattle.std.proofs.Math.Bool.{and-false}
use Rattle.std.proofs.lemmas.Bool.{lt-leb}
use Rattle.std.proofs.Math.Dec.{eqb-suc-suc, eqb-suc-zero}
use Rattle.paper.specs.declared.Tok.{Tok}
use Rattle.paper.specs.declared.Tok.TheVariants.{Start, End, Text, Attr, Value, Bad}
use Rattle.paper.specs.Basics.{most_deep, null}
use Rattle.paper.specs.Tokens.{close, level_of, deep, is_start, end_of}
use Rattle.paper.specs.Shape.{Phase, Head, Named, Valued, Body, Fail, phase_of, phases, is_body, is_element, shallow}
use Rattle.shape_laws.specs.Ends.{deep_ge}
use Rattle.shape_laws.specs.Phases.{fails}

-- what is left of one element of good shape, in a phase, at a level
abbrev pub rest : Phase → ℕ → List Tok → Bool
rest p zero r = null r
rest p (suc k) r = eqb (suc (close k r)) (length r) && is_body (phases p r) && leb (deep (suc k) r) most_deep

within : (a b lim : ℕ) → a ≤ lim → leb (max a b) lim ≡ leb b lim
within a b lim h = go (leb b lim) refl
  where
    go : (c : Bool) → leb b lim ≡ c → leb (max a b) lim ≡ c
    go true e = le-leb (max a b) lim (omega (arith, leb-true b lim e))
    go false e = lt-leb (max a b) lim (omega (arith, leb-false b lim e))

-- an end that may stand leads into the content
end_body : (p : Phase) → (phase_of p End ≡ Fail → ⊥) → phase_of p End ≡ Body
end_body Head h = refl
end_body (Named a) h = absurd (h refl)
end_body (Valued a) h = refl
end_body Body h = refl
end_body Fail h = absurd (h refl)

-- behind the root's end nothing is left
root_ends : (r : List Tok) → eqb 1 (suc (length r)) && is_body (phases Body r) && leb (max 1 (deep 0 r)) most_deep ≡ null r
root_ends [] = refl
root_ends (t ∷ r) = rw (ne_eqb 1 (suc (suc (length r))) (λ e. omega arith))

pub rest_turn : (p : Phase) (k : ℕ) (t : Tok) (r : List Tok) → suc k ≤ most_deep → (phase_of p t ≡ Fail → ⊥)
    → rest p (suc k) (t ∷ r) ≡ rest (phase_of p t) (level_of (suc k) t) r
rest_turn p k (Start n) r h f = rw (within (suc k) (deep (suc (suc k)) r) most_deep h, eqb-suc-suc)
rest_turn p zero End r h f = rw (end_body p f) (root_ends r)
rest_turn p (suc k) End r h f = rw (within (suc (suc k)) (deep (suc k) r) most_deep h, eqb-suc-suc)
rest_turn p k (Text n) r h f = rw (within (suc k) (deep (suc k) r) most_deep h, eqb-suc-suc)
rest_turn p k (Attr n) r h f = rw (within (suc k) (deep (suc k) r) most_deep h, eqb-suc-suc)
rest_turn p k (Value n) r h f = rw (within (suc k) (deep (suc k) r) most_deep h, eqb-suc-suc)
rest_turn p k Bad r h f = rw (within (suc k) (deep (suc k) r) most_deep h, eqb-suc-suc)

pub rest_deep : (p : Phase) (k : ℕ) (r : List Tok) → most_deep < k → rest p k r ≡ false
rest_deep p zero r h = absurd (omega arith)
rest_deep p (suc k) r h =
    rw (lt-leb (deep (suc k) r) most_deep (omega (arith, deep_ge (suc k) r)))
    (and-false (eqb (suc (close k r)) (length r) && is_body (phases p r)))

pub rest_fails : (p : Phase) (k : ℕ) (t : Tok) (r : List Tok) → phase_of p t ≡ Fail → rest p k (t ∷ r) ≡ false
rest_fails p zero t r e = refl
rest_fails p (suc k) t r e =
    rw (e, fails r, and-false)

pub rest_end : (p : Phase) (k : ℕ) → rest p k [] ≡ eqb k 0
rest_end p zero = refl
rest_end p (suc k) = sym (eqb-suc-zero k)

-- the tokens are one element of good shape
abbrev pub element : List Tok → Bool
element d = is_element d && shallow d

pub element_rest : (n : ℕ) (r : List Tok) → element (Start n ∷ r) ≡ rest Head 1 r
unfolding is_element end_of
element_rest n r = rw (within 0 (deep 1 r) most_deep (omega arith), suc-add, zero-add, eqb-suc-suc)

pub no_element : (d : List Tok) → is_start d ≡ false → element d ≡ false
unfolding is_element
no_element d e = rw e
