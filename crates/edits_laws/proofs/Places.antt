-- The tokens around a place in a tree are the tree's; what comes after a place. Assumes nothing.
use Rattle.std.specs.Prelude.{◌≡◌, refl, false, List, ◌∷◌, ◌++◌}
use Rattle.std.proofs.Common.{ap}
use Rattle.paper.specs.declared.Tok.{Tok}
use Rattle.paper.specs.declared.Tok.TheVariants.{Start, End, Text}
use Rattle.paper.specs.Trees.{Forest, nil, elem, flat}
use Rattle.paper.specs.Edits.{opens, at_head}
use Rattle.paper.specs.TreeEdits.{Hole, here, past_text, past_element, inside, fill}
use Rattle.shape_laws.specs.Tree.{flat_a_append, flat_append}
use Rattle.edits_laws.specs.Places.{before, after}

pub flat_fill : (h : Hole) (f : Forest) (r : List Tok) → flat (fill h f) r ≡ before h ++ flat f (after h r)
flat_fill here f r = refl
flat_fill (past_text n h) f r = ap (λ z. Text n ∷ z) (flat_fill h f r)
flat_fill (past_element n gs k h) f r = rw (flat_fill h f r) (flat_append (elem n gs k nil) (before h) (flat f (after h r)))
flat_fill (inside n gs h g) f r =
    rw (flat_fill h f (End ∷ flat g r)) (ap (λ z. Start n ∷ z) (flat_a_append gs (before h) (flat f (after h (End ∷ flat g r)))))

-- after the row at a place comes no start and no text
pub after_shut : (h : Hole) (r : List Tok) → at_head opens r ≡ false → at_head opens (after h r) ≡ false
after_shut here r e = e
after_shut (past_text n h) r e = after_shut h r e
after_shut (past_element n gs k h) r e = after_shut h r e
after_shut (inside n gs h f) r e = after_shut h (End ∷ flat f r) refl
