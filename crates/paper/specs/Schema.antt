-- "Schema file": the symbols of a model, what a schema is, and the readers of its file. A reader takes bytes from the front and
-- gives a value and the bytes that are left, or a refusal's number. Assumes nothing.
use Rattle.std.specs.Prelude.{Bool, false, cond, ◌&&◌, ◌||◌, List, [], ◌∷◌, ◌++◌, ℕ, zero, suc, ◌+◌, ◌-◌, leb, ltb, eqb}
use Rattle.std.proofs.Math.Option.{Option, none, some}
use Rattle.paper.specs.Basics.{most_number, most_elements, most_names, most_attributes, most_fixed, between}
use Rattle.paper.specs.Files.{Front, broken, got, front}
use Rattle.paper.specs.Expressions.{Expr, name, seq, alt, opt, star, plus, count}
use Rattle.paper.specs.Sets.{ambiguous}

-- ---- the symbols of a model

-- "0 sequence, 1 choice (two expressions follow each), 2 optional, 3 zero or more, 4 one or more (one follows), 5+e the
-- element e [..]. An operator stands before its parts"
abbrev pub symbols_of : Expr → List ℕ
symbols_of (name a) = (5 + a) ∷ []
symbols_of (seq e f) = 0 ∷ symbols_of e ++ symbols_of f
symbols_of (alt e f) = 1 ∷ symbols_of e ++ symbols_of f
symbols_of (opt e) = 2 ∷ symbols_of e
symbols_of (star e) = 3 ∷ symbols_of e
symbols_of (plus e) = 4 ∷ symbols_of e

-- The way back, from the last symbol to the first. `two` and `one` take the parts from the expressions that stand after.
abbrev pub two : (Expr → Expr → Expr) → List Expr → Option (List Expr)
two op [] = none
two op (e ∷ []) = none
two op (e ∷ f ∷ es) = some (op e f ∷ es)

abbrev pub one : (Expr → Expr) → List Expr → Option (List Expr)
one op [] = none
one op (e ∷ es) = some (op e ∷ es)

unfoldable pub symbol : ℕ → List Expr → Option (List Expr)
symbol s es =
    cond (eqb s 0) (two seq es)
    (cond (eqb s 1) (two alt es)
    (cond (eqb s 2) (one opt es)
    (cond (eqb s 3) (one star es)
    (cond (eqb s 4) (one plus es)
    (some (name (s - 5) ∷ es))))))

abbrev pub fed : ℕ → Option (List Expr) → Option (List Expr)
fed s none = none
fed s (some es) = symbol s es

-- the expressions that the symbols are, one after another
abbrev pub exprs_of : List ℕ → Option (List Expr)
exprs_of [] = some []
exprs_of (s ∷ r) = fed s (exprs_of r)

abbrev pub only : Option (List Expr) → Option Expr
only none = none
only (some []) = none
only (some (e ∷ [])) = some e
only (some (e ∷ f ∷ es)) = none

-- "the symbols are exactly one expression, at any nesting"
unfoldable pub expr_of : List ℕ → Option Expr
expr_of s = only (exprs_of s)

-- ---- a schema

-- "its number, 0 to 63 [..]; its kind, 0 CDATA, 1 ID, 2 IDREF, 3 IDREFS; its status, 0 required, 1 implied". Item 8: "status 2, fixed,
-- for CDATA, followed by its value number"; the value is 0 for the other statuses
pub record Attribute : Type 0 where
  pub number : ℕ
  pub kind : ℕ
  pub status : ℕ
  pub value : ℕ

abbrev pub is_fixed : Attribute → Bool
is_fixed y = eqb y.status 2

-- how many of the attributes are fixed
abbrev pub fixed_in : List Attribute → ℕ
fixed_in [] = 0
fixed_in (y ∷ l) = cond (is_fixed y) 1 0 + fixed_in l

-- "its kind: 0 EMPTY, 1 text only (#PCDATA), 2 a content model"
pub data Content : Type 0 where
  empty : Content
  text : Content
  model : Expr → Content

pub record Element : Type 0 where
  pub content : Content
  pub attributes : List Attribute

-- the elements are numbered from 0
pub record Schema : Type 0 where
  pub root : ℕ
  pub elements : List Element

-- ---- readers

pub data Parsed (A : Type 0) : Type 0 where
  stop : ℕ → Parsed A
  ok : A → List ℕ → Parsed A

abbrev pub Reader : Type 0 → Type 0
Reader A = List ℕ → Parsed A

module _ {A : Type 0} where
  abbrev pub pure : A → Reader A
  pure a s = ok a s

  abbrev pub refuse : ℕ → Reader A
  refuse k s = stop k

module _ {A B : Type 0} where
  abbrev pub onward : Parsed A → (A → Reader B) → Parsed B
  onward (stop k) f = stop k
  onward (ok a s) f = f a s

  abbrev pub ◌>>=◌ : Reader A → (A → Reader B) → Reader B
  ◌>>=◌ m f = λ s. onward (m s) f

-- "each number's form (1, also an end where a number is due) before its value (2 [..])"
abbrev pub valued : ℕ → ℕ → Front → Parsed ℕ
valued lo hi broken = stop 1
valued lo hi (got n r) = cond (between lo hi n) (ok n r) (stop 2)

unfoldable pub number : ℕ → ℕ → Reader ℕ
number lo hi s = valued lo hi (front s)

-- n numbers, each from lo to hi
abbrev pub numbers : ℕ → ℕ → ℕ → Reader (List ℕ)
numbers zero lo hi = pure []
numbers (suc n) lo hi = do
  x ← number lo hi
  xs ← numbers n lo hi
  pure (x ∷ xs)

-- "after a model's symbols, its expression form and count of names (2), then ambiguity (3)"
abbrev pub modelled : Option Expr → Reader Content
modelled none = refuse 2
modelled (some e) = cond (leb (count e) most_names) (cond (ambiguous e) (refuse 3) (pure (model e))) (refuse 2)

-- "the count of symbols, 1 to 255"
abbrev pub most_symbols : ℕ
most_symbols = 255

-- "for kind 2, the count of symbols, 1 to 255, and the symbols: [..] 5+e the element e, below 5+E"
abbrev pub content_as : ℕ → ℕ → Reader Content
content_as E zero = pure empty
content_as E (suc zero) = pure text
content_as E (suc (suc k)) = do
  n ← number 1 most_symbols
  symbols ← numbers n 0 (4 + E)
  modelled (expr_of symbols)

-- "(2; a second ID counts at its kind)": `had` says that an ID was met
abbrev pub kind_after : Bool → Reader ℕ
kind_after had = do
  k ← number 0 3
  cond (had && eqb k 1) (refuse 2) (pure k)

-- Item 8: "a seventeenth fixed attribute, one not CDATA [..] is 2 where its number stands": the largest status of an attribute of that
-- kind, where `met` fixed ones were met in the schema
abbrev pub most_status : (kind met : ℕ) → ℕ
most_status kind met = cond (eqb kind 0 && ltb met most_fixed) 2 1

-- "fixed [..], followed by its value number"; "a value over 65,535 is 2"
abbrev pub most_value : (status : ℕ) → ℕ
most_value status = cond (eqb status 2) most_number 0

abbrev pub value_after : (status : ℕ) → Reader ℕ
value_after status = cond (eqb status 2) (number 0 most_number) (pure 0)

-- "its number, 0 to 63, strictly rising within the element": the next one is `low` or more
abbrev pub attributes_from : ℕ → (low : ℕ) → (had : Bool) → (met : ℕ) → Reader (List Attribute)
attributes_from zero low had met = pure []
attributes_from (suc n) low had met = do
  a ← number low (most_attributes - 1)
  k ← kind_after had
  s ← number 0 (most_status k met)
  v ← value_after s
  rest ← attributes_from n (suc a) (had || eqb k 1) (met + cond (eqb s 2) 1 0)
  pure (record { number = a; kind = k; status = s; value = v } ∷ rest)

abbrev pub element : ℕ → (met : ℕ) → Reader Element
element E met = do
  k ← number 0 2
  c ← content_as E k
  n ← number 0 most_attributes
  attributes ← attributes_from n 0 false met
  pure (record { content = c; attributes = attributes })

abbrev pub elements_of : ℕ → ℕ → (met : ℕ) → Reader (List Element)
elements_of zero E met = pure []
elements_of (suc n) E met = do
  x ← element E met
  xs ← elements_of n E (met + fixed_in x.attributes)
  pure (x ∷ xs)

-- "at the end, leftover bytes (2)"
abbrev pub finished : Schema → Reader Schema
finished s [] = ok s []
finished s (b ∷ r) = stop 2

-- "In order: the number of elements E, 1 to 48; the root, below E; then each element 0 to E−1"
unfoldable pub schema_of : Reader Schema
schema_of = do
  E ← number 1 most_elements
  root ← number 0 (E - 1)
  elements ← elements_of E E 0
  finished (record { root = root; elements = elements })

-- the translator's number for a file, after the table's length was found right
abbrev pub refusal_of : Parsed Schema → ℕ
refusal_of (stop k) = k
refusal_of (ok s r) = 0
