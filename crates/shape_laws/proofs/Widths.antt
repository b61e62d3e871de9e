-- The children of all elements of a piece are its starts and texts less one. Assumes nothing.
use Rattle.std.specs.Prelude.{◌≡◌, refl, List, [], ◌∷◌, ◌++◌, ℕ, zero, ◌+◌, ◌-◌, length}
use Rattle.std.proofs.Common.{sym, ap, ◌∙◌, inl, inr, arith}
use Rattle.paper.specs.declared.Tok.{Tok}
use Rattle.paper.specs.declared.Tok.TheVariants.{Start, End, Text, Attr, Value, Bad}
use Rattle.paper.specs.Tokens.{kids}
use Rattle.paper.specs.Trees.{Given, Forest, nil, txt, elem, flat_v, flat_a, flat}
use Rattle.paper.specs.Edits.{opens}
use Rattle.paper.specs.TreeEdits.{width, widths}
use Rattle.shape_laws.specs.Depth.{count}
use Rattle.shape_laws.specs.Five.{element, one_text}
use Rattle.shape_laws.specs.Tree.{flat_a_append, flat_append, shape_tree}
use Rattle.shape_laws.specs.Looked.{own}
use Rattle.shape_laws.specs.Widths.{content_width, own_given, Comes}

pub own_flat : (f : Forest) (x r : List Tok) → own (flat f x) r ≡ widths f + own x r
own_flat nil x r = omega arith
own_flat (txt n f) x r = omega (arith, own_flat f x r)
own_flat (elem n gs k f) x r =
    let rest : List Tok = flat k (End ∷ flat f x) in
    let w : length (kids zero (flat_a gs rest ++ r)) ≡ width k
    = ap (λ l. length (kids zero l)) (sym (flat_a_append gs rest r) ∙ ap (flat_a gs) (sym (flat_append k (End ∷ flat f x) r))) ∙ content_width gs k (flat f x ++ r) in
    omega (arith, w, own_given gs rest r, own_flat k (End ∷ flat f x) r, own_flat f x r)

items_values : (vs : List ℕ) (x : List Tok) → count opens (flat_v vs x) ≡ count opens x
items_values [] x = refl
items_values (v ∷ vs) x = items_values vs x

items_given : (gs : List Given) (x : List Tok) → count opens (flat_a gs x) ≡ count opens x
items_given [] x = refl
items_given (g ∷ gs) x = items_values g.more (flat_a gs x) ∙ items_given gs x

-- a start or a text is a child of an element of the row, or one of the row
items_flat : (f : Forest) (x : List Tok) → count opens (flat f x) ≡ width f + widths f + count opens x
items_flat nil x = omega arith
items_flat (txt n f) x = omega (arith, items_flat f x)
items_flat (elem n gs k f) x =
    omega (arith, items_given gs (flat k (End ∷ flat f x)), items_flat k (End ∷ flat f x), items_flat f x)

none_own : (p r : List Tok) → count opens p ≡ 0 → own p r ≡ 0
none_own [] r e = refl
none_own (Start n ∷ p) r e = absurd (omega arith)
none_own (Text n ∷ p) r e = absurd (omega arith)
none_own (End ∷ p) r e = omega (arith, none_own p r e)
none_own (Attr n ∷ p) r e = omega (arith, none_own p r e)
none_own (Value n ∷ p) r e = omega (arith, none_own p r e)
none_own (Bad ∷ p) r e = omega (arith, none_own p r e)

pub own_is : (p r : List Tok) → Comes p → own p r ≡ count opens p - 1
own_is p r (inr e) = omega (arith, none_own p r e)
own_is p r (inl (element e)) =
    let t = shape_tree p e in
    let f : Forest = elem t.name t.attributes t.content nil in
    rw t.tokens (omega (arith, own_flat f [] r, items_flat f []))
own_is p r (inl one_text) = omega arith
