-- A document has shape exactly if it is the tokens of one element, within the limits. Assumes nothing.
use Rattle.std.specs.Prelude.{◌≡◌, ◌↔◌, true, ◌&&◌, List, ℕ, zero, leb, length, take}
use Rattle.std.proofs.Math.Bool.{and-eq-true_iff}
use Rattle.std.proofs.Common.{arith, leb-true, le-leb}
use Rattle.paper.specs.declared.Tok.{Tok}
use Rattle.paper.specs.Basics.{most_tokens, most_deep}
use Rattle.paper.specs.Tokens.{toks, deep}
use Rattle.paper.specs.Shape.{is_element, shallow, shape_of}
use Rattle.paper.specs.Trees.{IsTree, InShape}
use Rattle.shape_laws.specs.Tree.{shape_is_tree}
use Rattle.shape_laws.specs.TreeDepth.{tree_deep}

pub shape_exactly : (buffer : List ℕ) (used : ℕ) → (shape_of buffer used ≡ true) ↔ InShape buffer used
unfolding shape_of
shape_exactly buffer used = (to, of)
  where
    to : leb 2 used && leb used most_tokens && leb used (length buffer) && is_element (toks (take used buffer)) && shallow (toks (take used buffer)) ≡ true → InShape buffer used
    to e =
        let d : List Tok = toks (take used buffer) in
        let (e, s) = (and-eq-true_iff (leb 2 used && leb used most_tokens && leb used (length buffer) && is_element d) (shallow d)).0 e in
        let (e, one) = (and-eq-true_iff (leb 2 used && leb used most_tokens && leb used (length buffer)) (is_element d)).0 e in
        let (e, long) = (and-eq-true_iff (leb 2 used && leb used most_tokens) (leb used (length buffer))).0 e in
        let (low, high) = (and-eq-true_iff (leb 2 used) (leb used most_tokens)).0 e in
        let t : IsTree d = (shape_is_tree d).0 one in
        let few = leb-true (deep zero d) most_deep s in
        let same = tree_deep d t in
        (leb-true 2 used low, leb-true used most_tokens high, leb-true used (length buffer) long, (t, omega arith))

    of : InShape buffer used → leb 2 used && leb used most_tokens && leb used (length buffer) && is_element (toks (take used buffer)) && shallow (toks (take used buffer)) ≡ true
    of (low, high, long, (t, few)) =
        let d : List Tok = toks (take used buffer) in
        let same = tree_deep d t in
        rw (le-leb 2 used low, le-leb used most_tokens high, le-leb used (length buffer) long, (shape_is_tree d).1 t, le-leb (deep zero d) most_deep (omega arith))
