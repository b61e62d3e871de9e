-- Declarations as numbers: the schema that a text is turned into, and the list of its names. Assumes nothing.
use Rattle.std.specs.Prelude.{Bool, cond, ◌&&◌, List, [], ◌∷◌, ◌++◌, map, ℕ, suc, leb, length}
use Rattle.std.proofs.Math.Option.{Option, none, some}
use Rattle.paper.specs.Basics.{most_names, concat}
use Rattle.paper.specs.Expressions.{Expr, name, seq, alt, opt, star, plus, count}
use Rattle.paper.specs.Schema.{symbols_of, most_symbols, Attribute, Element, Schema}
use Rattle.paper.specs.Schema as schema
use Rattle.paper.specs.Dtd.Letters.{Name, same}
use Rattle.paper.specs.Dtd.Declarations.{Suffix, once, maybe, many, several, Part, word, sequence, choice, Parts, only, ◌and◌}
use Rattle.paper.specs.Dtd.Declarations.{Content, empty, text, model, Kind, cdata, id, idref, idrefs, Status, required, implied, Definition}
use Rattle.paper.specs.Dtd.Declarations.{Declaration, element, attlist, element_names, defined_for, attribute_names}

-- ---- models

-- "every suffix is one symbol and nothing is simplified (`((a?)?)` is `2 2 a`)"
abbrev pub suffixed : Suffix → Expr → Expr
suffixed once e = e
suffixed maybe e = opt e
suffixed many e = star e
suffixed several e = plus e

-- Item 4: "`(a,b,c)` is a and then the pair b, c, likewise for a choice"; "a bracket round one part is that part".
-- `f` numbers the names.
abbrev mutual
  pub expr_of : Part → (Name → ℕ) → Expr
  expr_of (word n q) f = suffixed q (name (f n))
  expr_of (sequence ps q) f = suffixed q (paired ps seq f)
  expr_of (choice p ps q) f = suffixed q (alt (expr_of p f) (paired ps alt f))

  pub paired : Parts → (Expr → Expr → Expr) → (Name → ℕ) → Expr
  paired (only p) op f = expr_of p f
  paired (p and ps) op f = op (expr_of p f) (paired ps op f)

-- "a model's limits (255 symbols, 64 names)"
abbrev pub model_fits : Part → Bool
model_fits p =
    let e : Expr = expr_of p (λ n. 0) in
    leb (length (symbols_of e)) most_symbols && leb (count e) most_names

-- ---- the schema

-- a name's number is its place in the list
abbrev pub number_in : List Name → Name → ℕ
number_in [] n = 0
number_in (m ∷ l) n = cond (same n m) 0 (suc (number_in l n))

abbrev pub content_of : (Name → ℕ) → Content → schema.Content
content_of f empty = schema.empty
content_of f text = schema.text
content_of f (model p) = schema.model (expr_of p f)

-- "0 CDATA, 1 ID, 2 IDREF, 3 IDREFS"; "0 required, 1 implied"
abbrev pub kind_number : Kind → ℕ
kind_number cdata = 0
kind_number id = 1
kind_number idref = 2
kind_number idrefs = 3

abbrev pub status_number : Status → ℕ
status_number required = 0
status_number implied = 1

abbrev pub definition_of : Name → List Definition → Option Definition
definition_of n [] = none
definition_of n (d ∷ l) = cond (same n d.name) (some d) (definition_of n l)

abbrev pub attribute_for : ℕ → Option Definition → List Attribute
attribute_for i none = []
attribute_for i (some d) = record { number = i; kind = kind_number d.kind; status = status_number d.status; value = 0 } ∷ []

-- "an element's attributes by rising number": the attributes of the text from number i on, those that the element has
abbrev pub attributes_from : ℕ → List Name → List Definition → List Attribute
attributes_from i [] own = []
attributes_from i (n ∷ l) own = attribute_for i (definition_of n own) ++ attributes_from (suc i) l own

-- all: every declaration; ds: those whose elements are meant
abbrev pub elements_from : (all ds : List Declaration) → List Element
elements_from all [] = []
elements_from all (element n c ∷ ds) =
    record {
      content = content_of (number_in (element_names all)) c;
      attributes = attributes_from 0 (attribute_names all) (defined_for n all);
    }
    ∷ elements_from all ds
elements_from all (attlist n l ∷ ds) = elements_from all ds

-- Item 4: "Elements are numbered by declaration, attributes by first appearance, the first element is the root"
abbrev pub schema_for : List Declaration → Schema
schema_for ds = record { root = 0; elements = elements_from ds ds }

-- ---- the names

-- Item 13: "names, each ended by byte 10, elements 0 to E−1, then up to 64 attributes from 0"
abbrev pub listed : List Name → List ℕ
listed l = concat (map (λ n. n ++ 10 ∷ []) l)

abbrev pub names_of : List Declaration → List ℕ
names_of ds = listed (element_names ds ++ attribute_names ds)
