-- "The five edits", told on the tree: what each does to the elements, attributes and texts that the tokens are. That a done edit
-- leaves the tokens of that tree, and reports the children looked at in it, is a promise. Assumes nothing.
use Rattle.std.specs.Prelude.{◌≡◌, cond, List, [], ◌∷◌, ℕ, zero, suc, ◌+◌, ltb, eqb, length}
use Rattle.paper.specs.declared.Tok.TheVariants.{Attr}
use Rattle.paper.specs.Tokens.{toks}
use Rattle.paper.specs.Trees.{Given, Forest, nil, txt, elem, flat_a, flat}
use Rattle.paper.specs.Edits.{Request}

-- ---- a place in a tree

-- the texts and elements before a place, and the elements that are open there
pub data Hole : Type 0 where
  here : Hole
  past_text : ℕ → Hole → Hole
  past_element : ℕ → List Given → Forest → Hole → Hole
  -- in an element, which the last row comes after
  inside : ℕ → List Given → Hole → Forest → Hole

-- the tree with the row f at the place
abbrev pub fill : Hole → Forest → Forest
fill here f = f
fill (past_text n h) f = txt n (fill h f)
fill (past_element n gs k h) f = elem n gs k (fill h f)
fill (inside n gs h r) f = elem n gs (fill h f) r

-- how many tokens stand before the place
abbrev pub place_of : Hole → ℕ
place_of here = zero
place_of (past_text n h) = suc (place_of h)
place_of (past_element n gs k h) = length (flat (elem n gs k nil) []) + place_of h
place_of (inside n gs h r) = suc (length (flat_a gs []) + place_of h)

-- ---- what comes and goes

-- one element or one text, before the row f
pub data One : (Forest → Forest) → Type 0 where
  text : (n : ℕ) → One (txt n)
  element : (n : ℕ) (gs : List Given) (k : Forest) → One (elem n gs k)

-- "the attribute is added or its values replaced, order kept"
abbrev pub set_given : Given → List Given → List Given
set_given g [] = g ∷ []
set_given g (x ∷ l) = cond (ltb x.name g.name) (x ∷ set_given g l) (cond (eqb x.name g.name) (g ∷ l) (g ∷ x ∷ l))

-- "it goes with its values"
abbrev pub drop_given : ℕ → List Given → List Given
drop_given a [] = []
drop_given a (x ∷ l) = cond (eqb x.name a) l (x ∷ drop_given a l)

-- ---- the five edits

-- the edit q makes the second tree of the first
pub data TreeEdit (q : Request) : Forest → Forest → Type 0 where
  -- "insert: the piece, one element of good shape or one text, goes before the token at the place"
  insert : {p : Forest → Forest} → q.operation ≡ 1 → One p → toks q.piece ≡ flat (p nil) []
      → (h : Hole) (f : Forest) → q.place ≡ place_of h → TreeEdit q (fill h f) (fill h (p f))
  -- "remove: [..] the whole element or the text goes"
  remove : {x : Forest → Forest} → q.operation ≡ 2 → One x
      → (h : Hole) (f : Forest) → q.place ≡ place_of h → TreeEdit q (fill h (x f)) (fill h f)
  -- "replace: piece as for insert; the token is a start or text"
  replace : {p x : Forest → Forest} → q.operation ≡ 3 → One p → toks q.piece ≡ flat (p nil) [] → One x
      → (h : Hole) (f : Forest) → q.place ≡ place_of h → TreeEdit q (fill h (x f)) (fill h (p f))
  -- "set: the piece is an attribute and one or more values"
  set : q.operation ≡ 4 → (g : Given) → toks q.piece ≡ flat_a (g ∷ []) []
      → (h : Hole) (n : ℕ) (gs : List Given) (k f : Forest) → q.place ≡ place_of h
      → TreeEdit q (fill h (elem n gs k f)) (fill h (elem n (set_given g gs) k f))
  -- "drop: the piece is one attribute token"
  drop : q.operation ≡ 5 → (a : ℕ) → toks q.piece ≡ Attr a ∷ []
      → (h : Hole) (n : ℕ) (gs : List Given) (k f : Forest) → q.place ≡ place_of h
      → TreeEdit q (fill h (elem n gs k f)) (fill h (elem n (drop_given a gs) k f))

-- ---- the children looked at

-- the children and texts of an element that has this row in it
abbrev pub width : Forest → ℕ
width nil = 0
width (txt n f) = suc (width f)
width (elem n gs k f) = suc (width f)

-- those of every element of a row
abbrev pub widths : Forest → ℕ
widths nil = 0
widths (txt n f) = widths f
widths (elem n gs k f) = width k + (widths k + widths f)

-- those of the element in which the place lies, with the row f there; `top` where it lies in none
abbrev pub around : Hole → Forest → (top : ℕ) → ℕ
around here f top = top
around (past_text n h) f top = around h f top
around (past_element n gs k h) f top = around h f top
around (inside n gs h r) f top = around h f (width (fill h f))

-- Item 10: "children and texts of the touched parent (or of the set or dropped element) in the edited document, plus those of every element
-- in the piece; a replaced root has no parent, which counts 0"
abbrev pub looked : {q : Request} {old new : Forest} → TreeEdit q old new → ℕ
looked (insert {p} o one e h f a) = around h (p f) 0 + widths (p nil)
looked (remove o one h f a) = around h f 0
looked (replace {p} o one e x h f a) = around h (p f) 0 + widths (p nil)
looked (set o g e h n gs k f a) = width k
looked (drop o m e h n gs k f a) = width k
