-- The end that closes an element.
use Rattle.std.specs.Prelude.{◌≡◌, refl, true, false, List, [], ◌∷◌, ℕ, zero, suc, ◌+◌, ◌≤◌, ◌<◌, max, length, take, drop, get_or}
use Rattle.std.proofs.Common.{le_trans, not-suc-le-zero, le_of_suc-le-suc, add-zero, add-one, arith}
use Rattle.paper.specs.declared.Tok.{Tok}
use Rattle.paper.specs.declared.Tok.TheVariants.{Start, End, Text, Attr, Value, Bad}
use Rattle.paper.specs.Tokens.{close, closes_of, deep, end_of, level_of, tok_of, toks}

-- what is left of a document from place i on, a token at a time
pub rest_next : (buf : List ℕ) (used i : ℕ) → i < used → used ≤ length buf
    → drop i (toks (take used buf)) ≡ tok_of (get_or buf i 0) ∷ drop (suc i) (toks (take used buf))
rest_next [] used i h l = absurd (not-suc-le-zero (le_trans h l))
rest_next (x ∷ buf) zero i h l = absurd (not-suc-le-zero h)
rest_next (x ∷ buf) (suc used) zero h l = refl
rest_next (x ∷ buf) (suc used) (suc i) h l = rest_next buf used i (le_of_suc-le-suc h) (le_of_suc-le-suc l)

pub rest_none : (buf : List ℕ) (used : ℕ) → drop used (toks (take used buf)) ≡ []
rest_none buf zero = refl
rest_none [] (suc used) = refl
rest_none (x ∷ buf) (suc used) = rest_none buf used

-- the same of all tokens
pub rest_at : (l : List ℕ) (i : ℕ) → i < length l → drop i (toks l) ≡ tok_of (get_or l i 0) ∷ drop (suc i) (toks l)
rest_at [] i h = absurd (not-suc-le-zero h)
rest_at (x ∷ l) zero h = refl
rest_at (x ∷ l) (suc i) h = rest_at l i (le_of_suc-le-suc h)

pub rest_past : (l : List ℕ) (i : ℕ) → length l ≤ i → drop i (toks l) ≡ []
rest_past [] zero h = refl
rest_past [] (suc i) h = refl
rest_past (x ∷ l) zero h = absurd (not-suc-le-zero h)
rest_past (x ∷ l) (suc i) h = rest_past l i (le_of_suc-le-suc h)

module _ (doc : List ℕ) (i k : ℕ) {t : Tok} (h : i < length doc) (et : t ≡ tok_of (get_or doc i 0)) where
  pub close_stop : closes_of k t ≡ true → i + close k (drop i (toks doc)) ≡ i
  close_stop e = rw (rest_at doc i h, ← et, e, add-zero)

  pub close_go : closes_of k t ≡ false → i + close k (drop i (toks doc)) ≡ i + 1 + close (level_of k t) (drop (i + 1) (toks doc))
  close_go e = rw (rest_at doc i h, ← et, e, add-one) (omega arith)

pub close_out : (doc : List ℕ) (i k : ℕ) → length doc ≤ i → i + close k (drop i (toks doc)) ≡ i
close_out doc i k e = rw (rest_past doc i e, add-zero)

pub deep_ge : (k : ℕ) (d : List Tok) → k ≤ deep k d
deep_ge k [] = omega arith
deep_ge k (t ∷ d) = omega arith

pub deep_turn : (doc : List ℕ) (i k m : ℕ) {t : Tok} → k ≤ m → i < length doc → t ≡ tok_of (get_or doc i 0)
    → max m (deep k (drop i (toks doc))) ≡ max (max m (level_of k t)) (deep (level_of k t) (drop (i + 1) (toks doc)))
deep_turn doc i k m {t} low h et =
    rw (rest_at doc i h, ← et, add-one) (omega (arith, deep_ge (level_of k t) (drop (suc i) (toks doc))))

pub deep_out : (doc : List ℕ) (i k m : ℕ) → length doc ≤ i → max m (deep k (drop i (toks doc))) ≡ max m k
deep_out doc i k m e = rw (rest_past doc i e)

pub level_le : (k : ℕ) (t : Tok) → level_of k t ≤ k + 1
level_le k (Start n) = omega arith
level_le zero End = omega arith
level_le (suc k) End = omega arith
level_le k (Text n) = omega arith
level_le k (Attr n) = omega arith
level_le k (Value n) = omega arith
level_le k Bad = omega arith

pub end_begin : (d : List Tok) (place : ℕ) → end_of d place ≡ place + 1 + close 0 (drop (place + 1) d)
unfolding end_of
end_begin d place = rw add-one
