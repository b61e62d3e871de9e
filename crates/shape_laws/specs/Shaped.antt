-- A document with shape: what the test says of the buffer and of the tokens in it. Assumes nothing.
use Rattle.std.specs.Prelude.{◌≡◌, true, List, ℕ, ◌≤◌, leb, ◌&&◌, length, take}
use Rattle.std.proofs.Math.Bool.{and-eq-true_iff}
use Rattle.std.proofs.Common.{sym, ap, ◌∙◌, arith, leb-true, length-take-le, le-leb}
use Rattle.std.proofs.Math.Seq.{take-length}
use Rattle.paper.specs.declared.Tok.{Tok}
use Rattle.paper.specs.Basics.{most_tokens, most_deep}
use Rattle.paper.specs.Tokens.{toks, deep}
use Rattle.paper.specs.Shape.{is_element, shallow, shape_of}

pub record Shaped (buf : List ℕ) (used : ℕ) : Type 0 where
  pub few : used ≤ most_tokens
  pub long : used ≤ length buf
  pub one : is_element (toks (take used buf)) ≡ true
  pub low : deep 0 (toks (take used buf)) ≤ most_deep

pub shaped : (buf : List ℕ) (used : ℕ) → shape_of buf used ≡ true → Shaped buf used
unfolding shape_of
shaped buf used e =
    let d : List Tok = toks (take used buf) in
    let (s, low) = (and-eq-true_iff _ (shallow d)).0 e in
    let (s, one) = (and-eq-true_iff _ (is_element d)).0 s in
    let (s, long) = (and-eq-true_iff _ (leb used (length buf))).0 s in
    let (_, few) = (and-eq-true_iff (leb 2 used) (leb used most_tokens)).0 s in
    record { few = leb-true used most_tokens few; long = leb-true used (length buf) long; one = one; low = leb-true (deep 0 d) most_deep low }

-- the same of the document's tokens alone
pub record ShapedDoc (doc : List ℕ) : Type 0 where
  pub few : length doc ≤ most_tokens
  pub one : is_element (toks doc) ≡ true
  pub low : deep 0 (toks doc) ≤ most_deep

pub shaped_doc : (doc : List ℕ) → shape_of doc (length doc) ≡ true → ShapedDoc doc
shaped_doc doc e =
    let s = shaped doc (length doc) e in
    let all : toks (take (length doc) doc) ≡ toks doc = ap toks (take-length doc) in
    record { few = s.few; one = rw all at s.one; low = rw all at s.low }

pub shape_alone : (buf : List ℕ) (used : ℕ) → shape_of buf used ≡ true → shape_of (take used buf) (length (take used buf)) ≡ true
unfolding shape_of
shape_alone buf used e =
    let s = shaped buf used e in
    let n : length (take used buf) ≡ used = length-take-le used buf s.long in
    let all : take used (take used buf) ≡ take used buf = ap (λ k. take k (take used buf)) (sym n) ∙ take-length (take used buf) in
    let (r, shallow_is) = (and-eq-true_iff _ (shallow (toks (take used buf)))).0 e in
    let (r, one_is) = (and-eq-true_iff _ (is_element (toks (take used buf)))).0 r in
    let (ends, _) = (and-eq-true_iff (leb 2 used && leb used most_tokens) (leb used (length buf))).0 r in
    rw (n, all, ends, le-leb used used (omega arith), one_is) shallow_is
