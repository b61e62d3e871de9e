-- For every place of a document, the place of the end that closes the element that is open there. Assumes nothing.
use Rattle.std.specs.Prelude.{◌≡◌, refl, Bool, true, false, cond, List, [], ◌∷◌, ◌++◌, ℕ, zero, suc, ◌+◌, ◌≤◌, ◌<◌, ltb, length, get_or, drop}
use Rattle.std.proofs.Common.{ap, ◌∙◌, add-zero, zero-add, add-suc, suc-add, not-suc-le-zero, le_of_suc-le-suc, arith, lt-ltb, le-ltb}
use Rattle.std.proofs.Math.ListN.{get_or-append}
use Rattle.paper.specs.declared.Tok.{Tok}
use Rattle.paper.specs.declared.Tok.TheVariants.{Start, End, Text, Attr, Value, Bad}
use Rattle.paper.specs.Tokens.{tok_of, close, closes_of, starts}
use Rattle.tokens.specs.Sorts.{ends}

-- for each of the tokens d, that begin at place b, the place of the end that closes the element open there; the place behind the last,
-- where there is none
abbrev pub closing : ℕ → List Tok → List ℕ
closing b [] = []
closing b (t ∷ d) = (b + close zero (t ∷ d)) ∷ closing (suc b) d

-- the same at one place p, from what is known behind it: e is that of place p + 1, and `out` has those of the places after it
abbrev pub closing_at : List ℕ → ℕ → ℕ → Tok → ℕ
closing_at out p e t = cond (starts t) (cond (ltb (e + 1) (length out)) (get_or out (e + 1) 0) (length out)) (cond (closes_of zero t) p e)

-- ---- the laws of close

-- one level further out: behind the end that closes the inner element
pub close_outer : (k : ℕ) (d : List Tok) → close k d < length d → close (suc k) d ≡ suc (close k d + close zero (drop (suc (close k d)) d))
close_outer k [] h = absurd (not-suc-le-zero h)
close_outer k (Start n ∷ d) h = omega (arith, close_outer (suc k) d (omega arith))
close_outer zero (End ∷ d) h = omega arith
close_outer (suc k) (End ∷ d) h = omega (arith, close_outer k d (omega arith))
close_outer k (Text n ∷ d) h = omega (arith, close_outer k d (omega arith))
close_outer k (Attr n ∷ d) h = omega (arith, close_outer k d (omega arith))
close_outer k (Value n ∷ d) h = omega (arith, close_outer k d (omega arith))
close_outer k (Bad ∷ d) h = omega (arith, close_outer k d (omega arith))

-- where nothing closes the inner element, nothing closes the outer one
pub close_none : (k : ℕ) (d : List Tok) → close k d ≡ length d → close (suc k) d ≡ length d
close_none k [] e = refl
close_none k (Start n ∷ d) e = ap suc (close_none (suc k) d (omega arith))
close_none zero (End ∷ d) e = absurd (omega arith)
close_none (suc k) (End ∷ d) e = ap suc (close_none k d (omega arith))
close_none k (Text n ∷ d) e = ap suc (close_none k d (omega arith))
close_none k (Attr n ∷ d) e = ap suc (close_none k d (omega arith))
close_none k (Value n ∷ d) e = ap suc (close_none k d (omega arith))
close_none k (Bad ∷ d) e = ap suc (close_none k d (omega arith))

-- ---- the laws of closing

pub closing_length : (b : ℕ) (d : List Tok) → length (closing b d) ≡ length d
closing_length b [] = refl
closing_length b (t ∷ d) = ap suc (closing_length (suc b) d)

pub closing_at_lem : (b : ℕ) (d : List Tok) (p : ℕ) → p < length d → get_or (closing b d) p 0 ≡ b + p + close zero (drop p d)
closing_at_lem b [] p h = absurd (not-suc-le-zero h)
closing_at_lem b (t ∷ d) zero h = rw add-zero
closing_at_lem b (t ∷ d) (suc p) h = closing_at_lem (suc b) d p (le_of_suc-le-suc h) ∙ rw (suc-add, add-suc)

-- what `closes` wrote, at a place of the document, and for an element the place of its end
module _ (d : List Tok) (tail : List ℕ) {out : List ℕ} (eo : out ≡ closing 0 d ++ tail) where
  pub closed_at : (p : ℕ) → p < length d → get_or out p 0 ≡ p + close zero (drop p d)
  closed_at p h =
      ap (λ (l : List ℕ). get_or l p 0) eo
      ∙ get_or-append (closing 0 d) tail 0 p (omega (arith, closing_length 0 d))
      ∙ closing_at_lem 0 d p h
      ∙ rw zero-add

-- ---- what belongs at a place, as the code tells it

module _ (out : List ℕ) (p e t : ℕ) {y : Bool} (ey : y ≡ starts (tok_of t)) where
  pub closing_next : y ≡ true → e + 1 < length out → {r : ℕ} → r ≡ get_or out (e + 1) 0 → r ≡ closing_at out p e (tok_of t)
  closing_next a h er = rw (← ey, a, lt-ltb (e + 1) (length out) h) er

  pub closing_past : y ≡ true → length out ≤ e + 1 → length out ≡ closing_at out p e (tok_of t)
  closing_past a h = rw (← ey, a, le-ltb (e + 1) (length out) h)

  module _ (a : y ≡ false) {z : Bool} (ez : z ≡ ends (tok_of t)) where
    pub closing_end : z ≡ true → p ≡ closing_at out p e (tok_of t)
    closing_end b = rw (← ey, a, ← ez, b)

    pub closing_other : z ≡ false → e ≡ closing_at out p e (tok_of t)
    closing_other b = rw (← ey, a, ← ez, b)
