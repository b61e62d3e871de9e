-- The token at a place, and the text or element that begins there. Assumes nothing.
use Rattle.std.specs.Prelude.{◌≡◌, refl, Bool, true, false, length, get_or}
use Rattle.std.proofs.Math.Path.{sym, ap}
use Rattle.std.proofs.Common.{◌∙◌, drop-drop}
use Rattle.std.proofs.lemmas.List.{length-map}
use mathlib.Core.List.{List, [], ◌∷◌}
use Prim.Native.Nat.{ℕ, zero, suc, ◌+◌, ◌-◌, ◌≤◌, ◌<◌, suc-le-suc}
use native.Mathlib.Omega.{arith}
use Rattle.std.proofs.Math.ListN.{drop, length-drop}
use Rattle.paper.specs.declared.Tok.{Tok}
use Rattle.paper.specs.declared.Tok.TheVariants.{Start, End, Text, Attr, Value, Bad}
use Rattle.paper.specs.Tokens.{tok_of, toks, starts, close, end_of, item_size}
use Rattle.basic_laws.specs.Bools.{clash}
use Rattle.tokens.specs.Sorts.{text_tok}

-- ---- the token that begins d; Bad, where none does

abbrev pub head_tok : List Tok → Tok
head_tok [] = Bad
head_tok (t ∷ d) = t

pub head_is : (l : List ℕ) (p : ℕ) → tok_of (get_or l p 0) ≡ head_tok (drop p (toks l))
head_is [] zero = refl
head_is [] (suc p) = refl
head_is (x ∷ l) zero = refl
head_is (x ∷ l) (suc p) = head_is l p

-- a token stands inside the list
token_within : (P : Tok → Bool) → P Bad ≡ false → (l : List ℕ) (p : ℕ) → P (tok_of (get_or l p 0)) ≡ true → p < length l
token_within P bad [] zero e = clash e bad
token_within P bad [] (suc p) e = clash e bad
token_within P bad (x ∷ l) zero e = omega arith
token_within P bad (x ∷ l) (suc p) e = omega (arith, token_within P bad l p e)

module _ (doc : List ℕ) (place : ℕ) {t : ℕ} (et : t ≡ get_or doc place 0) {y : Bool} (ey : y ≡ starts (tok_of t)) (e : y ≡ true) where
  pub start_within : place < length doc
  start_within = token_within starts refl doc place (ap (λ x. starts (tok_of x)) (sym et) ∙ sym ey ∙ e)

-- ---- an end stands behind its start, and not past the length

pub close_le : (k : ℕ) (d : List Tok) → close k d ≤ length d
close_le k [] = omega arith
close_le k (Start n ∷ d) = suc-le-suc (close_le (suc k) d)
close_le zero (End ∷ d) = omega arith
close_le (suc k) (End ∷ d) = suc-le-suc (close_le k d)
close_le k (Text n ∷ d) = suc-le-suc (close_le k d)
close_le k (Attr n ∷ d) = suc-le-suc (close_le k d)
close_le k (Value n ∷ d) = suc-le-suc (close_le k d)
close_le k (Bad ∷ d) = suc-le-suc (close_le k d)

module _ (doc : List ℕ) (place : ℕ) {e : ℕ} (ee : e ≡ end_of (toks doc) place) where
  pub end_behind : place ≤ e
  unfolding end_of
  end_behind = omega arith

  pub end_within : place < length doc → e ≤ length doc
  unfolding end_of
  end_within h =
      let d : List Tok = toks doc in
      omega (arith, close_le 0 (drop (suc place) d), length-drop (suc place) d, length-map doc tok_of)

-- ---- the item, by the token that begins it

size_start : (d : List Tok) → starts (head_tok d) ≡ true → suc (suc (close 0 (drop 1 d))) ≡ item_size d
size_start [] e = cc
size_start (Start n ∷ d) e = refl
size_start (End ∷ d) e = cc
size_start (Text n ∷ d) e = cc
size_start (Attr n ∷ d) e = cc
size_start (Value n ∷ d) e = cc
size_start (Bad ∷ d) e = cc

size_text : (d : List Tok) → text_tok (head_tok d) ≡ true → 1 ≡ item_size d
size_text [] e = cc
size_text (Start n ∷ d) e = cc
size_text (End ∷ d) e = cc
size_text (Text n ∷ d) e = refl
size_text (Attr n ∷ d) e = cc
size_text (Value n ∷ d) e = cc
size_text (Bad ∷ d) e = cc

size_none : (d : List Tok) → starts (head_tok d) ≡ false → text_tok (head_tok d) ≡ false → 0 ≡ item_size d
size_none [] a b = refl
size_none (Start n ∷ d) a b = cc
size_none (End ∷ d) a b = refl
size_none (Text n ∷ d) a b = cc
size_none (Attr n ∷ d) a b = refl
size_none (Value n ∷ d) a b = refl
size_none (Bad ∷ d) a b = refl

module _ (doc : List ℕ) (place : ℕ) {t : ℕ} (et : t ≡ get_or doc place 0) {y : Bool} (ey : y ≡ starts (tok_of t)) where
  here : tok_of t ≡ head_tok (drop place (toks doc))
  here = ap tok_of et ∙ head_is doc place

  pub item_start : y ≡ true → {e : ℕ} → e ≡ end_of (toks doc) place → e - place + 1 ≡ item_size (drop place (toks doc))
  unfolding end_of
  item_start a ee =
      let d : List Tok = toks doc in
      let z : place + 1 ≡ suc place = omega arith in
      omega (
        arith,
        size_start (drop place d) (ap starts (sym here) ∙ sym ey ∙ a),
        ap (close 0) (drop-drop 1 place d ∙ ap (λ k. drop k d) z),
      )

  module _ (a : y ≡ false) {z : Bool} (ez : z ≡ text_tok (tok_of t)) where
    pub item_text : z ≡ true → 1 ≡ item_size (drop place (toks doc))
    item_text b = size_text (drop place (toks doc)) (ap text_tok (sym here) ∙ sym ez ∙ b)

    pub item_none : z ≡ false → 0 ≡ item_size (drop place (toks doc))
    item_none b =
        size_none (drop place (toks doc)) (ap starts (sym here) ∙ sym ey ∙ a) (ap text_tok (sym here) ∙ sym ez ∙ b)
