-- What shape says of the buffer and of the tokens in it. Assumes nothing.
use Rattle.std.specs.Prelude.{◌≡◌, refl, Bool, true, false, ◌&&◌, List, ℕ, ◌≤◌, length, take}
use Rattle.std.proofs.Common.{arith}
use Rattle.paper.specs.Tokens.{toks}
use Rattle.paper.specs.Shape.{is_element, shape_of}
use Rattle.shape_laws.specs.Shaped.{shaped}

pub and_left : (a b : Bool) → a && b ≡ true → a ≡ true
and_left true b e = refl
and_left false b e = e

pub and_right : (a b : Bool) → a && b ≡ true → b ≡ true
and_right true b e = e
and_right false b e = let z : ◌≡◌ {A = ℕ} 0 1 = cc in absurd (omega arith)

-- what shape says of the buffer and of the tokens
module _ (buffer : List ℕ) (used : ℕ) (e : shape_of buffer used ≡ true) where
  pub shape_long : used ≤ length buffer
  shape_long = (shaped buffer used e).long

  pub shape_element : is_element (toks (take used buffer)) ≡ true
  shape_element = (shaped buffer used e).one
