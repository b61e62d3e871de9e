-- "Judgement of a document", told as a statement: when a document is valid by a schema's own expressions. There is no table, no
-- test of a child sequence and no list of IDs here, only what expressions mean and where tokens stand. That the judgement finds no
-- fault exactly in the valid documents is a promise. Assumes nothing.
use Rattle.std.specs.Prelude.{◌≡◌, ◌⊎◌, true, List, [], ◌∷◌, ◌++◌, map, ℕ, zero, suc, ◌+◌, ◌≤◌, ◌<◌, T, length, take}
use Rattle.std.proofs.Math.Option.{some}
use Rattle.paper.specs.declared.Tok.{Tok}
use Rattle.paper.specs.declared.Tok.TheVariants.{Start, Text, Attr, Value}
use Rattle.paper.specs.Expressions.{Matches}
use Rattle.paper.specs.Schema.{Content, empty, text, model, Element, Schema}
use Rattle.paper.specs.Table.{of_kind, is_required}
use Rattle.paper.specs.Tokens.{toks, heads, kids, child_at, values}
use Rattle.paper.specs.Shape.{shape_of}
use Rattle.paper.specs.Rules.{element_at, has, fixed_to}

-- "attributes (8): each one allowed, all required present, one value each unless IDREFS". h: the attributes and values that
-- stand after a start of the element x
pub record AttributesValid (x : Element) (h : List Tok) : Type 0 where
  pub allowed : (u r : List Tok) (a : ℕ) → h ≡ u ++ Attr a ∷ r → T (has (λ y. true) x a)
  pub required : (a : ℕ) → T (has is_required x a) → (u : List Tok) × (r : List Tok) × (h ≡ u ++ Attr a ∷ r)
  pub single : (u r : List Tok) (a : ℕ) → h ≡ u ++ Attr a ∷ r → T (has (of_kind 3) x a) ⊎ (values r ≡ 1)
  -- Item 8: "if present has exactly that value"
  pub fixed : (u r : List Tok) (a v : ℕ) → h ≡ u ++ Attr a ∷ r → fixed_to x a ≡ some v → (t : List Tok) × (r ≡ Value v ∷ t) × (values t ≡ 0)

-- "content (9): EMPTY has no child and no text, text only [..], a model has no text and a child sequence that the expression
-- describes". Item 1: "A text-only element now has no text or one, still no child element". k: the children and texts
abbrev pub ContentValid : Content → List Tok → Type 0
ContentValid empty k = k ≡ []
ContentValid text k = (k ≡ []) ⊎ ((n : ℕ) × (k ≡ Text n ∷ []))
ContentValid (model e) k = (w : List ℕ) × (k ≡ map Start w) × Matches e w

-- "at each: name below E (7); attributes (8) [..]; content (9)"
pub record ElementValid (s : Schema) (n : ℕ) (h k : List Tok) : Type 0 where
  pub declared : n < length s.elements
  pub attributes : AttributesValid (element_at s n) h
  pub content : ContentValid (element_at s n).content k

-- ---- IDs and references

-- A value that comes directly after the tokens u is one of the attribute a of an element n: u ends in a start of n, attributes and
-- values and nothing else, the attribute a, and the values of a that come earlier.
pub record EndsIn (u : List Tok) (n a : ℕ) : Type 0 where
  pub before : List Tok
  pub attributes : List Tok
  pub nothing_else : heads attributes ≡ attributes
  pub earlier : List ℕ
  pub tokens : u ≡ before ++ Start n ∷ attributes ++ Attr a ∷ map Value earlier

-- The value x stands at a place of d, at an attribute of an element: P holds of the numbers of the two.
pub record StandsAt (P : (n a : ℕ) → Type 0) (d : List Tok) (place x : ℕ) : Type 0 where
  pub element : ℕ
  pub attribute : ℕ
  pub before : List Tok
  pub after : List Tok
  pub tokens : d ≡ before ++ Value x ∷ after
  pub at_place : length before ≡ place
  pub ends : EndsIn before element attribute
  pub such : P element attribute

-- The element declares the attribute, as an ID; as an IDREF or IDREFS. "Attributes not allowed at their element, or at an undeclared
-- one, are neither IDs nor references."
abbrev pub IsId : Schema → (n a : ℕ) → Type 0
IsId s n a = T (has (of_kind 1) (element_at s n) a)

abbrev pub IsReference : Schema → (n a : ℕ) → Type 0
IsReference s n a = T (has (of_kind 2) (element_at s n) a) ⊎ T (has (of_kind 3) (element_at s n) a)

-- ---- the document

-- of a document with shape
pub record Valid (s : Schema) (d : List Tok) : Type 0 where
  -- "the root's name (10, place 0)"
  pub root : (r : List Tok) × (d ≡ Start s.root ∷ r)
  -- "then elements by rising start place"
  pub elements : (u r : List Tok) (n : ℕ) → d ≡ u ++ Start n ∷ r → ElementValid s n (heads r) (kids zero r)
  -- no "ID value met earlier as an ID (11 [..])": equal ID values stand at one place
  pub ids : (i j x : ℕ) → StandsAt (IsId s) d i x → StandsAt (IsId s) d j x → i ≡ j
  -- no "reference value that is no ID in the document (12 [..])": each is an ID value too
  pub references : (i x : ℕ) → StandsAt (IsReference s) d i x → (j : ℕ) × StandsAt (IsId s) d j x

-- the document that a buffer holds
pub record ValidDocument (s : Schema) (buffer : List ℕ) (used : ℕ) : Type 0 where
  pub shape : shape_of buffer used ≡ true
  pub valid : Valid s (toks (take used buffer))

-- ---- where content stops

-- Item 3: "the first child or text at which no valid content can begin that way, or the element's end token if the children stop too
-- early". Content stops at child i of the children k, or at the end token if there are i: `Begins` says of children that valid content
-- begins with them, `Good` that they are valid content.
pub record StopsAt (Begins Good : List Tok → Type 0) (k : List Tok) (i : ℕ) : Type 0 where
  pub within : i ≤ length k
  pub before : Begins (take i k)
  pub here : i < length k → ¬ Begins (take (suc i) k)
  pub ending : i ≡ length k → ¬ Good k

-- the place is where the content of an element of d stops: `Begins` and `Good` are told of the element's name
pub record Points (Begins Good : ℕ → List Tok → Type 0) (d : List Tok) (place : ℕ) : Type 0 where
  pub element : ℕ
  pub before : List Tok
  pub after : List Tok
  pub tokens : d ≡ before ++ Start element ∷ after
  pub child : ℕ
  pub stops : StopsAt (Begins element) (Good element) (kids zero after) child
  pub at_place : place ≡ length before + suc (child_at child zero after)

-- some valid content begins with the children k
abbrev pub Begun : Content → List Tok → Type 0
Begun c k = (v : List Tok) × ContentValid c (k ++ v)

-- by the schema's own expressions
abbrev pub PointsAt : Schema → List Tok → (place : ℕ) → Type 0
PointsAt s d place = Points (λ n. Begun (element_at s n).content) (λ n. ContentValid (element_at s n).content) d place
