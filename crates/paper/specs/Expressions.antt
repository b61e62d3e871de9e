-- Content models: expressions over the numbers of elements, what they mean, and when one is ambiguous. Assumes nothing.
--
-- These are the content particles of XML 1.0, section 3.2.1. That the tests in Matching and Sets decide what is said here is
-- proved in the crate `content_laws`.
use Rattle.std.specs.Prelude.{◌≡◌, ◌≢◌, ℕ, ◌+◌, List, [], ◌∷◌, ◌++◌, get_or}

pub data Expr : Type 0 where
  -- one element, by its number
  name : ℕ → Expr
  -- "0 sequence, 1 choice": e then f; e or f
  seq alt : Expr → Expr → Expr
  -- "2 optional, 3 zero or more, 4 one or more"
  opt star plus : Expr → Expr

-- ---- meaning

-- e describes the list of elements: "a child sequence that the expression describes"
pub data Matches : Expr → List ℕ → Type 0 where
  this : {a : ℕ} → Matches (name a) (a ∷ [])
  then : {e f : Expr} {u v : List ℕ} → Matches e u → Matches f v → Matches (seq e f) (u ++ v)
  left : {e f : Expr} {w : List ℕ} → Matches e w → Matches (alt e f) w
  right : {e f : Expr} {w : List ℕ} → Matches f w → Matches (alt e f) w
  skip : {e : Expr} → Matches (opt e) []
  take : {e : Expr} {w : List ℕ} → Matches e w → Matches (opt e) w
  stop : {e : Expr} → Matches (star e) []
  more : {e : Expr} {u v : List ℕ} → Matches e u → Matches (star e) v → Matches (star e) (u ++ v)
  some : {e : Expr} {u v : List ℕ} → Matches e u → Matches (star e) v → Matches (plus e) (u ++ v)

-- ---- occurrences

-- the names of the occurrences: "Occurrences are numbered from 0 in reading order"
abbrev pub names : Expr → List ℕ
names (name a) = a ∷ []
names (seq e f) = names e ++ names f
names (alt e f) = names e ++ names f
names (opt e) = names e
names (star e) = names e
names (plus e) = names e

-- how many occurrences there are
abbrev pub count : Expr → ℕ
count (name a) = 1
count (seq e f) = count e + count f
count (alt e f) = count e + count f
count (opt e) = count e
count (star e) = count e
count (plus e) = count e

-- the name of occurrence k (0 past the end)
abbrev pub name_at : Expr → ℕ → ℕ
name_at e k = get_or (names e) k 0

-- e with the numbers of its occurrences, from b on, for its names
abbrev pub mark : ℕ → Expr → Expr
mark b (name a) = name b
mark b (seq e f) = seq (mark b e) (mark (b + count e) f)
mark b (alt e f) = alt (mark b e) (mark (b + count e) f)
mark b (opt e) = opt (mark b e)
mark b (star e) = star (mark b e)
mark b (plus e) = plus (mark b e)

-- a run of e's name occurrences that is a full match
abbrev pub Marked : ℕ → Expr → List ℕ → Type 0
Marked b e p = Matches (mark b e) p

-- ---- ambiguity

-- "two different occurrences of one name"
pub record Twins (e : Expr) (x y : ℕ) : Type 0 where
  pub differ : x ≢ y
  pub same : name_at e x ≡ name_at e y

-- "A model is ambiguous if some run of its name occurrences can be continued, each time towards a full match, by two different
-- occurrences of one name."
pub record Ambiguous (e : Expr) : Type 0 where
  -- the run, the two occurrences, and what follows each
  pub u : List ℕ
  pub x : ℕ
  pub y : ℕ
  pub v : List ℕ
  pub v' : List ℕ
  pub one : Marked 0 e (u ++ x ∷ v)
  pub other : Marked 0 e (u ++ y ∷ v')
  pub twins : Twins e x y
