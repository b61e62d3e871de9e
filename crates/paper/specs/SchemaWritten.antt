-- "Schema file", told from the schema: the numbers of its file, and the limits that it keeps. That the readers of Schema take
-- exactly the files so written, if no model is ambiguous, is a promise. Assumes nothing.
use Rattle.std.specs.Prelude.{◌≡◌, Bool, true, false, cond, not, ◌&&◌, ◌||◌, List, [], ◌∷◌, ◌++◌, map, ℕ, suc, ◌+◌, ◌-◌, ◌*◌, ◌<◌, leb, ltb, eqb, length}
use Rattle.paper.specs.Basics.{most_elements, most_names, most_attributes, between, all, cons_if, concat}
use Rattle.paper.specs.Files.{file_of}
use Rattle.paper.specs.Expressions.{Expr, names, count, Ambiguous}
use Rattle.paper.specs.Schema.{symbols_of, Attribute, is_fixed, fixed_in, Content, empty, text, model, Element, Schema, most_symbols, most_status, most_value}

-- ---- the numbers of the file

-- "its number [..]; its kind [..]; its status". Item 8: "fixed, for CDATA, followed by its value number"
abbrev pub attribute_written : Attribute → List ℕ
attribute_written y = y.number ∷ y.kind ∷ y.status ∷ cons_if (is_fixed y) y.value []

-- "its kind [..]; for kind 2, the count of symbols [..], and the symbols"
abbrev pub content_written : Content → List ℕ
content_written empty = 0 ∷ []
content_written text = 1 ∷ []
content_written (model e) = 2 ∷ length (symbols_of e) ∷ symbols_of e

-- "the count of attributes [..], and for each"
abbrev pub element_written : Element → List ℕ
element_written x = content_written x.content ++ (length x.attributes ∷ concat (map attribute_written x.attributes))

-- "In order: the number of elements E [..]; the root [..]; then each element 0 to E−1"
abbrev pub schema_written : Schema → List ℕ
schema_written s = length s.elements ∷ s.root ∷ concat (map element_written s.elements)

-- the most bytes of its file, if no attribute is fixed: E and the root, and for each element its kind, a count of symbols in two bytes, the
-- symbols, a count of attributes, and three bytes for each
abbrev pub most_schema_file : ℕ
most_schema_file = 2 + most_elements * (1 + 2 + most_symbols + 1 + 3 * most_attributes)

-- ---- the limits

-- "its number, 0 to 63, strictly rising within the element; its kind, 0 [..] 3 [..]; its status, 0 [..] 1 [..]. At most one ID per
-- element." Item 8: "status 2, fixed, for CDATA [..]. Up to 16 in a schema". The next number is `low` or more; `had`: an ID was met; `met`
-- fixed ones were met in the schema.
abbrev pub formed_attributes : ℕ → Bool → ℕ → List Attribute → Bool
formed_attributes low had met [] = true
formed_attributes low had met (y ∷ l) =
    between low (most_attributes - 1) y.number
    && leb y.kind 3
    && not (had && eqb y.kind 1)
    && leb y.status (most_status y.kind met)
    && leb y.value (most_value y.status)
    && formed_attributes (suc y.number) (had || eqb y.kind 1) (met + cond (is_fixed y) 1 0) l

-- "the count of symbols, 1 to 255"; "5+e the element e, below 5+E"; "At most 64 names occur in it"
abbrev pub formed_model : ℕ → Expr → Bool
formed_model E e = leb (length (symbols_of e)) most_symbols && all (λ a. ltb a E) (names e) && leb (count e) most_names

abbrev pub formed_content : ℕ → Content → Bool
formed_content E empty = true
formed_content E text = true
formed_content E (model e) = formed_model E e

-- "the count of attributes, 0 to 64"
abbrev pub formed_element : ℕ → ℕ → Element → Bool
formed_element E met x = formed_content E x.content && leb (length x.attributes) most_attributes && formed_attributes 0 false met x.attributes

abbrev pub formed_elements : ℕ → ℕ → List Element → Bool
formed_elements E met [] = true
formed_elements E met (x ∷ l) = formed_element E met x && formed_elements E (met + fixed_in x.attributes) l

-- "the number of elements E, 1 to 48; the root, below E"
abbrev pub formed : Schema → Bool
formed s =
    between 1 most_elements (length s.elements) && ltb s.root (length s.elements) && formed_elements (length s.elements) 0 s.elements

-- ---- the models

-- none of the elements has an ambiguous model
abbrev pub Unambiguous : List Element → Type 0
Unambiguous l = (u v : List Element) (x : Element) (e : Expr) → l ≡ u ++ x ∷ v → x.content ≡ model e → ¬ Ambiguous e

-- The file begins as that of a schema within the limits does, up to a model that is ambiguous: E, the root, elements before it,
-- none of them with an ambiguous model, and the model.
pub record MeetsAmbiguous (file : List ℕ) : Type 0 where
  pub E : ℕ
  pub root : ℕ
  pub before : List Element
  pub e : Expr
  pub rest : List ℕ
  pub some_elements : between 1 most_elements E ≡ true
  pub root_below : root < E
  pub room : length before < E
  pub before_formed : formed_elements E 0 before ≡ true
  pub before_clear : Unambiguous before
  pub model_formed : formed_model E e ≡ true
  pub ambiguous : Ambiguous e
  pub begins : file ≡ file_of (E ∷ root ∷ concat (map element_written before) ++ content_written (model e)) ++ rest
