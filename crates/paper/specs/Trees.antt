-- The tree that a document's tokens are: elements with attributes, texts and elements in them. That a document has shape exactly
-- if it is such a tree's tokens, within the limits, is a promise. Assumes nothing.
use Rattle.std.specs.Prelude.{◌≡◌, Bool, true, ◌&&◌, List, [], ◌∷◌, ℕ, zero, suc, max, ◌≤◌, ltb, length, take}
use Rattle.paper.specs.declared.Tok.{Tok}
use Rattle.paper.specs.declared.Tok.TheVariants.{Start, End, Text, Attr, Value}
use Rattle.paper.specs.Basics.{most_tokens, most_deep}
use Rattle.paper.specs.Tokens.{toks}

-- an attribute with its values, of which it has at least one
pub record Given : Type 0 where
  pub name : ℕ
  pub value : ℕ
  pub more : List ℕ

-- texts and elements in a row. An element has a name, attributes, what is in it, and what comes after it.
pub data Forest : Type 0 where
  nil : Forest
  txt : ℕ → Forest → Forest
  elem : ℕ → List Given → Forest → Forest → Forest

-- the tokens, and then r
abbrev pub flat_v : List ℕ → List Tok → List Tok
flat_v [] r = r
flat_v (v ∷ vs) r = Value v ∷ flat_v vs r

abbrev pub flat_a : List Given → List Tok → List Tok
flat_a [] r = r
flat_a (g ∷ gs) r = Attr g.name ∷ Value g.value ∷ flat_v g.more (flat_a gs r)

abbrev pub flat : Forest → List Tok → List Tok
flat nil r = r
flat (txt n f) r = Text n ∷ flat f r
flat (elem n gs k f) r = Start n ∷ flat_a gs (flat k (End ∷ flat f r))

-- "numbers strictly rising": from above b
abbrev pub above : ℕ → List Given → Bool
above b [] = true
above b (g ∷ gs) = ltb b g.name && above g.name gs

abbrev pub rises : List Given → Bool
rises [] = true
rises (g ∷ gs) = above g.name gs

-- at every element
abbrev pub good : Forest → Bool
good nil = true
good (txt n f) = good f
good (elem n gs k f) = rises gs && (good k && good f)

-- "at most 64 deep with the root at 1": the levels of a row
abbrev pub depth : Forest → ℕ
depth nil = zero
depth (txt n f) = depth f
depth (elem n gs k f) = max (suc (depth k)) (depth f)

-- d is the tokens of one element
pub record IsTree (d : List Tok) : Type 0 where
  pub name : ℕ
  pub attributes : List Given
  pub content : Forest
  pub rising : good (elem name attributes content nil) ≡ true
  pub tokens : d ≡ flat (elem name attributes content nil) []

abbrev pub tree_of : {d : List Tok} → IsTree d → Forest
tree_of t = elem t.name t.attributes t.content nil

-- "A document has shape if: its used length is 2 to 8,192 and no more than the buffer; [..] at most 64 deep with the root at 1": told of the
-- tree
abbrev pub InShape : (buffer : List ℕ) → (used : ℕ) → Type 0
InShape buffer used =
    (2 ≤ used) × (used ≤ most_tokens) × (used ≤ length buffer) × ((t : IsTree (toks (take used buffer))) × (depth (tree_of t) ≤ most_deep))
