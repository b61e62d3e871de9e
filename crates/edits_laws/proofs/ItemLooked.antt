-- The children looked at where an item comes. Assumes nothing.
use Rattle.std.specs.Prelude.{◌≡◌, take}
use Rattle.std.proofs.Math.Path.{sym}
use Rattle.std.proofs.Common.{ap, ap₂, ◌∙◌, arith}
use mathlib.Core.List.{List, [], ◌++◌}
use Prim.Native.Nat.{ℕ, ◌+◌}
use Rattle.paper.specs.declared.Tok.{Tok}
use Rattle.paper.specs.Trees.{Forest, nil, flat}
use Rattle.paper.specs.TreeEdits.{Hole, fill, place_of, widths, around}
use Rattle.shape_laws.specs.Looked.{over, own}
use Rattle.shape_laws.proofs.Widths.{own_flat}
use Rattle.edits_laws.specs.Pieces.{Item}
use Rattle.edits_laws.specs.Places.{after}
use Rattle.edits_laws.proofs.Splices.{one_before}
use Rattle.edits_laws.proofs.Looked.{row_around}

-- the item p comes at a place of the tree of d, before the row f
pub item_looked : (h : Hole) (f g : Forest) (d p : List Tok) (i : ℕ) → d ≡ flat (fill h g) [] → i ≡ place_of h → (m : Item p) (x : List Tok)
    → x ≡ flat f (after h []) → over (take i d) (p ++ x) + own p x ≡ around h (m.make f) 0 + widths (m.make nil)
item_looked h f g d p i w a m x r =
    let row : p ++ x ≡ flat (m.make f) (after h []) = ap₂ ◌++◌ m.tokens r ∙ sym (one_before m.one f (after h [])) in
    let piece : own p x ≡ own (flat (m.make nil) []) x = ap (λ z. own z x) m.tokens in
    omega (arith, row_around h g d i w a (m.make f) (p ++ x) row, piece, own_flat (m.make nil) [] x)
