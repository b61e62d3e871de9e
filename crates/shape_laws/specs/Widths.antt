-- The children of elements along a tree; those of all elements of a piece are its starts and texts less one. Assumes nothing.
use Rattle.std.specs.Prelude.{◌≡◌, refl, ◌⊎◌, List, [], ◌∷◌, ℕ, zero, suc, pred, length}
use Rattle.std.proofs.Common.{ap, ◌∙◌, inl, inr, arith}
use Rattle.paper.specs.declared.Tok.{Tok}
use Rattle.paper.specs.declared.Tok.TheVariants.{Start, End, Text, Attr, Value, Bad}
use Rattle.paper.specs.Tokens.{kids, values}
use Rattle.paper.specs.Trees.{Given, Forest, nil, txt, elem, flat_v, flat_a, flat}
use Rattle.paper.specs.Edits.{opens}
use Rattle.paper.specs.TreeEdits.{width}
use Rattle.shape_laws.specs.Attrs.{Put, gone, given}
use Rattle.shape_laws.specs.Depth.{count}
use Rattle.shape_laws.specs.Five.{Whole, element, Allowed, insert, remove, replace, replace_root, attribute}
use Rattle.shape_laws.specs.Looked.{own}

-- ---- the children of an element, along the tree

kids_values : (m : ℕ) (vs : List ℕ) (r : List Tok) → kids m (flat_v vs r) ≡ kids m r
kids_values m [] r = refl
kids_values m (v ∷ vs) r = kids_values m vs r

pub kids_given : (m : ℕ) (gs : List Given) (r : List Tok) → kids m (flat_a gs r) ≡ kids m r
kids_given m [] r = refl
kids_given m (g ∷ gs) r = kids_values m g.more (flat_a gs r) ∙ kids_given m gs r

-- what is in an element is not its parent's
pub kids_deeper : (m : ℕ) (f : Forest) (r : List Tok) → kids (suc m) (flat f r) ≡ kids (suc m) r
kids_deeper m nil r = refl
kids_deeper m (txt n f) r = kids_deeper m f r
kids_deeper m (elem n gs k f) r =
    kids_given (suc (suc m)) gs (flat k (End ∷ flat f r)) ∙ kids_deeper (suc m) k (End ∷ flat f r) ∙ kids_deeper m f r

row_width : (f : Forest) (r : List Tok) → length (kids zero (flat f (End ∷ r))) ≡ width f
row_width nil r = refl
row_width (txt n f) r = ap suc (row_width f r)
row_width (elem n gs k f) r =
    ap suc (ap length (kids_given 1 gs (flat k (End ∷ flat f (End ∷ r))) ∙ kids_deeper 0 k (End ∷ flat f (End ∷ r))) ∙ row_width f r)

pub content_width : (gs : List Given) (k : Forest) (r : List Tok) → length (kids zero (flat_a gs (flat k (End ∷ r)))) ≡ width k
content_width gs k r = ap length (kids_given 0 gs (flat k (End ∷ r))) ∙ row_width k r

-- ---- the piece

own_values : (vs : List ℕ) (x r : List Tok) → own (flat_v vs x) r ≡ own x r
own_values [] x r = refl
own_values (v ∷ vs) x r = omega (arith, own_values vs x r)

pub own_given : (gs : List Given) (x r : List Tok) → own (flat_a gs x) r ≡ own x r
own_given [] x r = refl
own_given (g ∷ gs) x r = omega (arith, own_values g.more (flat_a gs x) r, own_given gs x r)

-- what an edit brings: one element, one text, or neither of them
abbrev pub Comes : List Tok → Type 0
Comes p = Whole p ⊎ (count opens p ≡ 0)

values_none : (vs : List Tok) → values vs ≡ length vs → count opens vs ≡ 0
values_none [] e = refl
values_none (Value v ∷ vs) e = values_none vs (ap pred e)
values_none (Attr n ∷ vs) e = absurd (omega arith)
values_none (Start n ∷ vs) e = absurd (omega arith)
values_none (End ∷ vs) e = absurd (omega arith)
values_none (Text n ∷ vs) e = absurd (omega arith)
values_none (Bad ∷ vs) e = absurd (omega arith)

put_none : (a : ℕ) {piece : List Tok} → Put a piece → count opens piece ≡ 0
put_none a gone = refl
put_none a (given v vs e) = values_none vs e

pub allowed_comes : {d : List Tok} {at n : ℕ} {piece : List Tok} → Allowed d at n piece → Comes piece
allowed_comes (insert at t x s c w) = inl w
allowed_comes (remove at h) = inr refl
allowed_comes (replace at h w) = inl w
allowed_comes (replace_root f) = inl (element f)
allowed_comes (attribute a p s put) = inr (put_none a put)
