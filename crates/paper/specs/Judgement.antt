-- "Judgement of a document": one definition, over the rules that a schema or a table gives. Assumes nothing.
use Rattle.std.specs.Prelude.{Bool, true, false, cond, not, ◌&&◌, ◌||◌, List, [], ◌∷◌, map, ℕ, zero, suc, ◌+◌, ltb, eqb, take}
use Rattle.std.proofs.Math.Option.{Option, none, some}
use Rattle.paper.specs.declared.Tok.{Tok}
use Rattle.paper.specs.declared.Tok.TheVariants.{Start, End, Text, Attr, Value, Bad}
use Rattle.paper.specs.Basics.{most_attributes, every, null, cons_if, elem}
use Rattle.paper.specs.Tokens.{toks, heads, kids, child_at, values}
use Rattle.paper.specs.Shape.{shape_of}
use Rattle.paper.specs.Table.{proper}
use Rattle.paper.specs.Rules.{Rules, of_table}

-- an answer's number and place; no fault is 0 at 0
abbrev pub Answer : Type 0
Answer = ℕ × ℕ

abbrev pub none_found : Answer
none_found = (0, 0)

-- the fault f, given at place i, if it is one (f is not 0); else the answer r
abbrev pub or_else : ℕ → ℕ → Answer → Answer
or_else zero i r = r
or_else (suc f) i r = (suc f, i)

-- the first of two answers that is a fault
abbrev pub before : Answer → Answer → Answer
before a r = or_else a.0 a.1 r

-- ---- attributes (8)

-- the attribute a is among the heads of an element
abbrev pub present : ℕ → List Tok → Bool
present a [] = false
present a (Attr n ∷ r) = eqb n a || present a r
present a (Value v ∷ r) = present a r
present a (Start n ∷ r) = present a r
present a (End ∷ r) = present a r
present a (Text n ∷ r) = present a r
present a (Bad ∷ r) = present a r

-- P holds of each attribute and of what follows it
abbrev pub each_attr : (ℕ → List Tok → Bool) → List Tok → Bool
each_attr P [] = true
each_attr P (Attr n ∷ r) = P n r && each_attr P r
each_attr P (Value v ∷ r) = each_attr P r
each_attr P (Start n ∷ r) = each_attr P r
each_attr P (End ∷ r) = each_attr P r
each_attr P (Text n ∷ r) = each_attr P r
each_attr P (Bad ∷ r) = each_attr P r

-- the value v, and no other, begins r
abbrev pub only_value : ℕ → List Tok → Bool
only_value v [] = false
only_value v (Value n ∷ r) = eqb n v && eqb (values r) 0
only_value v (Attr n ∷ r) = false
only_value v (Start n ∷ r) = false
only_value v (End ∷ r) = false
only_value v (Text n ∷ r) = false
only_value v (Bad ∷ r) = false

-- Item 8: "the attribute may be absent, and if present has exactly that value, else 8". r: what follows the attribute
abbrev pub fixed_good : Option ℕ → List Tok → Bool
fixed_good none r = true
fixed_good (some v) r = only_value v r

-- "attributes (8): each one allowed, all required present, one value each unless IDREFS", and item 8's
unfoldable pub attributes_good : Rules → ℕ → List Tok → Bool
attributes_good R e h =
    each_attr (λ a r. R.allowed e a) h
    && every (λ a. not (R.required e a) || present a h) most_attributes
    && each_attr (λ a r. R.idrefs e a || eqb (values r) 1) h
    && each_attr (λ a r. fixed_good (R.fixed e a) r) h

-- ---- content (9)

abbrev pub no_text : List Tok → Bool
no_text [] = true
no_text (Text n ∷ k) = false
no_text (Start n ∷ k) = no_text k
no_text (End ∷ k) = no_text k
no_text (Attr n ∷ k) = no_text k
no_text (Value n ∷ k) = no_text k
no_text (Bad ∷ k) = no_text k

-- the names of the children
abbrev pub named : List Tok → List ℕ
named [] = []
named (Start n ∷ k) = n ∷ named k
named (Text n ∷ k) = named k
named (End ∷ k) = named k
named (Attr n ∷ k) = named k
named (Value n ∷ k) = named k
named (Bad ∷ k) = named k

-- Item 1: "A text-only element now has no text or one, still no child element, and two texts side by side stay a content fault."
abbrev pub text_or_none : List Tok → Bool
text_or_none [] = true
text_or_none (Text n ∷ k) = null k
text_or_none (Start n ∷ k) = false
text_or_none (End ∷ k) = false
text_or_none (Attr n ∷ k) = false
text_or_none (Value n ∷ k) = false
text_or_none (Bad ∷ k) = false

-- "content (9): EMPTY has no child and no text, text only [..], a model has no text and a child sequence that the expression
-- describes": by kind, and a test of a model's names
abbrev pub content : (kind : ℕ) → (List ℕ → Bool) → List Tok → Bool
content kind names k =
    cond (eqb kind 0) (null k)
    (cond (eqb kind 1) (text_or_none k)
    (no_text k && names (named k)))

unfoldable pub content_good : Rules → ℕ → List Tok → Bool
content_good R e k = content (R.kind e) (R.describes e) k

-- valid content of the element begins with the children k
unfoldable pub content_begun : Rules → ℕ → List Tok → Bool
content_begun R e k = content (R.kind e) (R.begins e) k

-- ---- where content stops

-- how many children stand before the first with which `begun` no longer holds of them; all, where there is none
abbrev pub stop_after : (begun : List Tok → Bool) → List Tok → ℕ
stop_after begun [] = 0
stop_after begun (x ∷ k) = cond (begun (x ∷ [])) (suc (stop_after (λ l. begun (x ∷ l)) k)) 0

-- ---- the elements

-- "at each: name below E (7); attributes (8) [..]; content (9) [..]": of an element by its name, its heads and its children
unfoldable pub element_fault : Rules → ℕ → List Tok → List Tok → ℕ
element_fault R e h k =
    cond (ltb e R.elements) (cond (attributes_good R e h) (cond (content_good R e k) 0 9) 8) 7

-- `fault` is the number for an element by its name, heads and children
module _ (fault : ℕ → List Tok → List Tok → ℕ) where
  -- the fault of the element that starts d
  abbrev pub fault_at : List Tok → ℕ
  fault_at [] = 0
  fault_at (Start n ∷ d) = fault n (heads d) (kids zero d)
  fault_at (End ∷ d) = 0
  fault_at (Text n ∷ d) = 0
  fault_at (Attr n ∷ d) = 0
  fault_at (Value n ∷ d) = 0
  fault_at (Bad ∷ d) = 0

  -- `given` is the place for a fault of a number, of the element that starts d at place i
  module _ (given : (number i : ℕ) → (d : List Tok) → ℕ) where
    -- "then elements by rising start place": the first fault among the places that are judged; d's first token is at place i
    abbrev pub first : (ℕ → Bool) → ℕ → List Tok → Answer
    first judged i [] = none_found
    first judged i (x ∷ d) =
        or_else (cond (judged i) (fault_at (x ∷ d)) 0) (given (fault_at (x ∷ d)) i (x ∷ d)) (first judged (suc i) d)

-- Item 3: "Answer 9 shall give the first child or text at which no valid content can begin that way, or the element's end token if the
-- children stop too early." Of the element that starts d at place i.
abbrev pub stop_in : Rules → ℕ → List Tok → ℕ
stop_in R i [] = i
stop_in R i (Start n ∷ d) = suc i + child_at (stop_after (content_begun R n) (kids zero d)) zero d
stop_in R i (End ∷ d) = i
stop_in R i (Text n ∷ d) = i
stop_in R i (Attr n ∷ d) = i
stop_in R i (Value n ∷ d) = i
stop_in R i (Bad ∷ d) = i

-- "These give the start's place", but for 9
abbrev pub place_of : Rules → (number i : ℕ) → List Tok → ℕ
place_of R number i d = cond (eqb number 9) (stop_in R i d) i

-- ---- the root (10)

abbrev pub root_fault : Rules → List Tok → Answer
root_fault R [] = none_found
root_fault R (Start n ∷ d) = cond (eqb n R.root) none_found (10, 0)
root_fault R (End ∷ d) = none_found
root_fault R (Text n ∷ d) = none_found
root_fault R (Attr n ∷ d) = none_found
root_fault R (Value n ∷ d) = none_found
root_fault R (Bad ∷ d) = none_found

-- ---- IDs and references (11, 12)

-- "Attributes not allowed at their element, or at an undeclared one, are neither IDs nor references."
abbrev pub declared : Rules → ℕ → ℕ → Bool
declared R e a = ltb e R.elements && R.allowed e a

abbrev pub is_id : Rules → ℕ → ℕ → Bool
is_id R e a = declared R e a && R.id e a

abbrev pub is_ref : Rules → ℕ → ℕ → Bool
is_ref R e a = declared R e a && (R.idref e a || R.idrefs e a)

-- the values of the attributes of a kind, by place: each place and value. d's first token is at place i, after a start of the
-- element e and the attribute a.
abbrev pub values_of : (ℕ → ℕ → Bool) → ℕ → ℕ → ℕ → List Tok → List (ℕ × ℕ)
values_of is i e a [] = []
values_of is i e a (Start n ∷ d) = values_of is (suc i) n a d
values_of is i e a (End ∷ d) = values_of is (suc i) e a d
values_of is i e a (Text n ∷ d) = values_of is (suc i) e a d
values_of is i e a (Attr n ∷ d) = values_of is (suc i) e n d
values_of is i e a (Value v ∷ d) = cons_if (is e a) (i, v) (values_of is (suc i) e a d)
values_of is i e a (Bad ∷ d) = values_of is (suc i) e a d

abbrev pub ids_of : Rules → List Tok → List (ℕ × ℕ)
ids_of R d = values_of (is_id R) 0 0 0 d

abbrev pub refs_of : Rules → List Tok → List (ℕ × ℕ)
refs_of R d = values_of (is_ref R) 0 0 0 d

abbrev pub value_in : ℕ × ℕ → ℕ
value_in p = p.1

-- "an ID value met earlier as an ID (11, place of the later value token)": `seen` are the values met so far
abbrev pub repeated : List ℕ → List (ℕ × ℕ) → Answer
repeated seen [] = none_found
repeated seen (p ∷ l) = cond (elem p.1 seen) (11, p.0) (repeated (p.1 ∷ seen) l)

-- "a reference value that is no ID in the document (12, that token)"
abbrev pub dangling : List ℕ → List (ℕ × ℕ) → Answer
dangling ids [] = none_found
dangling ids (p ∷ l) = cond (elem p.1 ids) (dangling ids l) (12, p.0)

abbrev pub key_fault : Rules → List Tok → Answer
key_fault R d = before (repeated [] (ids_of R d)) (dangling (map value_in (ids_of R d)) (refs_of R d))

-- ---- the judgement

-- "Order: [..] the root's name (10, place 0); then elements by rising start place [..]. Then an ID value met earlier [..]; then
-- a reference value that is no ID [..]. The lowest such place is given." Of a document with shape; `judged` says at which
-- places 7, 8 and 9 are looked for.
unfoldable pub judge : Rules → (ℕ → Bool) → List Tok → Answer
judge R judged d = before (root_fault R d) (before (first (element_fault R) (place_of R) judged 0 d) (key_fault R d))

abbrev pub whole : ℕ → Bool
whole i = true

-- "Order: table proper (13); shape (4); [judgement]"
unfoldable pub checking : Rules → (buffer : List ℕ) → (used : ℕ) → Answer
checking R buffer used = cond (shape_of buffer used) (judge R whole (toks (take used buffer))) (4, 0)

-- the check's answer
unfoldable pub check : (table buffer : List ℕ) → (used : ℕ) → Answer
check table buffer used = cond (proper table) (checking (of_table table) buffer used) (13, 0)
