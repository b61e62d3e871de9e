-- The starts and texts of a piece, counted. Assumes nothing.
use Rattle.std.specs.Prelude.{◌≡◌, refl, Bool, ◌||◌, List, ℕ, ◌+◌, ◌≤◌, ◌<◌, length, drop, get_or}
use Rattle.std.proofs.Common.{ap, arith}
use mir.Val.{bool_byte}
use Rattle.paper.specs.declared.Tok.{Tok}
use Rattle.paper.specs.declared.Tok.TheVariants.{Start, End, Text, Attr, Value, Bad}
use Rattle.paper.specs.Tokens.{tok_of, toks, starts}
use Rattle.paper.specs.Edits.{opens}
use Rattle.shape_laws.specs.Depth.{count}
use Rattle.shape_laws.specs.Ends.{rest_past}
use Rattle.tokens.specs.Sorts.{text_tok}
use Rattle.depths.specs.Depths.{one_le, count_turn}

-- a start or a text
either : (t : Tok) → starts t || text_tok t ≡ opens t
either (Start n) = refl
either End = refl
either (Text n) = refl
either (Attr n) = refl
either (Value n) = refl
either Bad = refl

-- of the starts and texts of a piece, n stand before place i
pub record Tallying (piece : List ℕ) (i n : ℕ) : Type 0 where
  pub few : n ≤ i
  pub left : count opens (toks piece) ≡ n + count opens (drop i (toks piece))

pub tallying_begin : (piece : List ℕ) → Tallying piece 0 0
tallying_begin piece = record { few = omega arith; left = omega arith }

module _ (piece : List ℕ) {i n : ℕ} (c : Tallying piece i n) where
  pub tallying_turn : i < length piece → {y z : Bool} → y ≡ starts (tok_of (get_or piece i 0)) → z ≡ text_tok (tok_of (get_or piece i 0))
      → Tallying piece (i + 1) (n + bool_byte (y || z))
  tallying_turn h {y} {z} ey ez =
      let t = count_turn opens piece i h {y = y || z} (rw (ey, ez) (either (tok_of (get_or piece i 0)))) in
      record { few = omega (arith, c.few, one_le (y || z)); left = omega (arith, c.left, t) }

  pub tallying_out : length piece ≤ i → n ≡ count opens (toks piece)
  tallying_out h = omega (arith, c.left, ap (count opens) (rest_past piece i h))
