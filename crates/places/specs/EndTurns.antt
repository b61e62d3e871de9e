-- The turns of the loops that look for an element's end, forward, and for a place's parent, backward. Assumes nothing.
use Rattle.std.specs.Prelude.{◌≡◌, refl, Bool, true, false, cond, ◌&&◌, List, ℕ, zero, suc, ◌+◌, ◌-◌, ◌≤◌, ◌<◌, eqb, length, get_or, take, drop}
use Rattle.std.proofs.Common.{sym, ap, ap₂, ◌∙◌, add-one, arith}
use Rattle.std.proofs.Math.Dec.{eqb-suc-zero}
use Rattle.paper.specs.declared.Tok.{Tok}
use Rattle.paper.specs.declared.Tok.TheVariants.{Start, End, Text, Attr, Value, Bad}
use Rattle.paper.specs.Tokens.{tok_of, toks, starts, close, closes_of, level_of, end_of}
use Rattle.shape_laws.specs.Ends.{close_stop, close_go, close_out, level_le, end_begin}
use Rattle.shape_laws.specs.Touch.{Loose, loose_begin, loose_turn, loose_found, loose_none, back_le, opens_of, back_of, parent_of}
use Rattle.tokens.specs.Sorts.{ends}

-- ---- what the tests of a sort tell

closes_is : (k : ℕ) (u : Tok) → ends u && eqb k 0 ≡ closes_of k u
closes_is k (Start n) = refl
closes_is zero End = refl
closes_is (suc k) End = eqb-suc-zero k
closes_is k (Text n) = refl
closes_is k (Attr n) = refl
closes_is k (Value n) = refl
closes_is k Bad = refl

opens_is : (k : ℕ) (u : Tok) → starts u && eqb k 0 ≡ opens_of k u
opens_is zero (Start n) = refl
opens_is (suc k) (Start n) = eqb-suc-zero k
opens_is k End = refl
opens_is k (Text n) = refl
opens_is k (Attr n) = refl
opens_is k (Value n) = refl
opens_is k Bad = refl

level_is : (k : ℕ) (u : Tok) → cond (starts u) (k + 1) (cond (ends u) (k - 1) k) ≡ level_of k u
level_is k (Start n) = add-one k
level_is zero End = omega arith
level_is (suc k) End = omega arith
level_is k (Text n) = refl
level_is k (Attr n) = refl
level_is k (Value n) = refl
level_is k Bad = refl

back_is : (k : ℕ) (u : Tok) → cond (ends u) (k + 1) (cond (starts u) (k - 1) k) ≡ back_of k u
back_is zero (Start n) = omega arith
back_is (suc k) (Start n) = omega arith
back_is k End = add-one k
back_is k (Text n) = refl
back_is k (Attr n) = refl
back_is k (Value n) = refl
back_is k Bad = refl

-- two tests, of which the first adds and the second takes away
module _ (f : ℕ → Tok → ℕ) (up down : Tok → Bool) (is : (k : ℕ) (u : Tok) → cond (up u) (k + 1) (cond (down u) (k - 1) k) ≡ f k u)
    (k t : ℕ) {y : Bool} (ey : y ≡ up (tok_of t)) where
  step_up : y ≡ true → k + 1 ≡ f k (tok_of t)
  step_up a = ap (λ b. cond b (k + 1) (cond (down (tok_of t)) (k - 1) k)) (sym a ∙ ey) ∙ is k (tok_of t)

  step : y ≡ false → {z b : Bool} → z ≡ down (tok_of t) → z ≡ b → cond b (k - 1) k ≡ f k (tok_of t)
  step a ez e = ap₂ (λ b c. cond b (k + 1) (cond c (k - 1) k)) (sym a ∙ ey) (sym e ∙ ez) ∙ is k (tok_of t)

module _ (k t : ℕ) {y : Bool} where
  pub level_up : y ≡ starts (tok_of t) → y ≡ true → k + 1 ≡ level_of k (tok_of t)
  level_up = step_up level_of starts ends level_is k t

  pub back_up : y ≡ ends (tok_of t) → y ≡ true → k + 1 ≡ back_of k (tok_of t)
  back_up = step_up back_of ends starts back_is k t

  module _ (a : y ≡ false) {z : Bool} where
    pub level_down : y ≡ starts (tok_of t) → z ≡ ends (tok_of t) → z ≡ true → {r : ℕ} → r ≡ k - 1 → r ≡ level_of k (tok_of t)
    level_down ey ez e er = er ∙ step level_of starts ends level_is k t ey a ez e

    pub level_same : y ≡ starts (tok_of t) → z ≡ ends (tok_of t) → z ≡ false → k ≡ level_of k (tok_of t)
    level_same ey ez e = step level_of starts ends level_is k t ey a ez e

    pub back_down : y ≡ ends (tok_of t) → z ≡ starts (tok_of t) → z ≡ true → {r : ℕ} → r ≡ k - 1 → r ≡ back_of k (tok_of t)
    back_down ey ez e er = er ∙ step back_of ends starts back_is k t ey a ez e

    pub back_same : y ≡ ends (tok_of t) → z ≡ starts (tok_of t) → z ≡ false → k ≡ back_of k (tok_of t)
    back_same ey ez e = step back_of ends starts back_is k t ey a ez e

-- ---- before place i, at level k below the open element

pub record Ending (doc : List ℕ) (place i k : ℕ) : Type 0 where
  pub here : i ≤ length doc
  pub low : k ≤ i
  pub left : end_of (toks doc) place ≡ i + close k (drop i (toks doc))

pub ending_begin : (doc : List ℕ) (place : ℕ) → place < length doc → Ending doc place (place + 1) 0
ending_begin doc place h = record { here = omega arith; low = omega arith; left = end_begin (toks doc) place }

module _ (doc : List ℕ) (place i k : ℕ) (c : Ending doc place i k) where
  pub ending_none : length doc ≤ i → length doc ≡ end_of (toks doc) place
  ending_none h = let z : length doc ≡ i = omega (arith, c.here) in z ∙ sym (c.left ∙ close_out doc i k h)

  module _ {y : Bool} (h : i < length doc) (ey : y ≡ ends (tok_of (get_or doc i 0))) where
    end_test : y && eqb k 0 ≡ closes_of k (tok_of (get_or doc i 0))
    end_test = ap (λ b. b && eqb k 0) ey ∙ closes_is k (tok_of (get_or doc i 0))

    pub ending_found : y && eqb k 0 ≡ true → i ≡ end_of (toks doc) place
    ending_found e = sym (c.left ∙ close_stop doc i k h refl (sym end_test ∙ e))

    pub ending_turn : y && eqb k 0 ≡ false → {k' : ℕ} → k' ≡ level_of k (tok_of (get_or doc i 0)) → Ending doc place (i + 1) k'
    ending_turn e ek =
        rw ek
        (record {
          here = omega arith;
          low = omega (arith, c.low, level_le k (tok_of (get_or doc i 0)));
          left = c.left ∙ close_go doc i k h refl (sym end_test ∙ e);
        })

-- ---- from place i on, up to `at`, k ends have no start

pub record Opening (buf : List ℕ) (at i k : ℕ) : Type 0 where
  pub low : k + i ≤ at
  pub left : Loose buf at i k

pub opening_begin : (buf : List ℕ) (at : ℕ) → Opening buf at at 0
opening_begin buf at = record { low = omega arith; left = loose_begin buf at }

module _ (buf : List ℕ) (at i k : ℕ) (l : at ≤ length buf) (c : Opening buf at i k) where
  pub opening_none : i ≤ 0 → at ≡ parent_of (toks (take at buf))
  opening_none h =
      let z : i ≡ 0 = omega arith in
      loose_none buf at k l (rw z at c.left)

  module _ {y : Bool} (h : 0 < i) (ey : y ≡ starts (tok_of (get_or buf (i - 1) 0))) where
    start_test : y && eqb k 0 ≡ opens_of k (tok_of (get_or buf (i - 1) 0))
    start_test = ap (λ b. b && eqb k 0) ey ∙ opens_is k (tok_of (get_or buf (i - 1) 0))

    pub opening_found : y && eqb k 0 ≡ true → i - 1 ≡ parent_of (toks (take at buf))
    opening_found e = loose_found buf at (i - 1) i k (omega arith) (omega arith) l refl c.left (sym start_test ∙ e)

    pub opening_turn : y && eqb k 0 ≡ false → {k' : ℕ} → k' ≡ back_of k (tok_of (get_or buf (i - 1) 0)) → Opening buf at (i - 1) k'
    opening_turn e ek =
        rw ek
        (record {
          low = omega (arith, back_le k (tok_of (get_or buf (i - 1) 0)));
          left = loose_turn buf at (i - 1) i k (omega arith) (omega arith) l refl c.left (sym start_test ∙ e);
        })
