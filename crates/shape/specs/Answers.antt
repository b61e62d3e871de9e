-- What the calls answer, from what their parts answer. Assumes nothing.
use Rattle.std.specs.Prelude.{◌≡◌, Bool, false, ◌&&◌, List, ℕ, ◌≤◌, ◌<◌, length, take}
use Rattle.std.proofs.Math.Bool.{and-false}
use Rattle.std.proofs.Common.{le-leb}
use Rattle.std.proofs.lemmas.Bool.{lt-leb}
use Rattle.paper.specs.Basics.{most_tokens}
use Rattle.paper.specs.Tokens.{toks}
use Rattle.paper.specs.Shape.{is_element, shallow, shape_of}

module _ (buf : List ℕ) (used : ℕ) where
  pub shape_low : used < 2 → false ≡ shape_of buf used
  unfolding shape_of
  shape_low h = rw (lt-leb 2 used h)

  pub shape_high : most_tokens < used → false ≡ shape_of buf used
  unfolding shape_of
  shape_high h = rw (lt-leb used most_tokens h, and-false)

  pub shape_past : length buf < used → false ≡ shape_of buf used
  unfolding shape_of
  shape_past h = rw (lt-leb used (length buf) h, and-false)

-- a document is one element of good shape, within the lengths
pub shape_element : (buf : List ℕ) (used : ℕ) {y : Bool} → 2 ≤ used → used ≤ most_tokens → used ≤ length buf
    → y ≡ is_element (toks (take used buf)) && shallow (toks (take used buf)) → y ≡ shape_of buf used
unfolding shape_of
shape_element buf used a b h e = rw (le-leb 2 used a, le-leb used most_tokens b, le-leb used (length buf) h) e
