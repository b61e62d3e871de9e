-- What a judgement asks of a schema, as tests, and the two readings: from a schema's own expressions, with no table anywhere in
-- it, and from a table.
-- Assumes nothing.
use Rattle.std.specs.Prelude.{Bool, true, false, ◌&&◌, List, [], ◌∷◌, ℕ, ◌+◌, eqb, length, get_or}
use Rattle.std.proofs.Math.Option.{Option, none, some}
use Rattle.paper.specs.Basics.{find, some_of, first_with, null}
use Rattle.paper.specs.Sets.{bit}
use Rattle.paper.specs.Schema.{Attribute, is_fixed, Content, empty, text, model, Element, Schema}
use Rattle.paper.specs.Matching.{matches, begins}
use Rattle.paper.specs.Table.{block, cell, kind_at, allowed_at, required_at, id_at, idref_at, idrefs_at, count_at, no_child_at, first_at, last_at, names_at, follow_at, Entry, fixed_part, entries, kind_number, of_kind, is_required}

pub record Rules : Type 0 where
  -- E, and the root's name
  pub elements : ℕ
  pub root : ℕ
  -- of an element: its kind; whether a list of children, by their names, is one that its model describes; and whether it begins one
  pub kind : ℕ → ℕ
  pub describes : ℕ → List ℕ → Bool
  pub begins : ℕ → List ℕ → Bool
  -- of an element and an attribute
  pub allowed : ℕ → ℕ → Bool
  pub required : ℕ → ℕ → Bool
  pub id : ℕ → ℕ → Bool
  pub idref : ℕ → ℕ → Bool
  pub idrefs : ℕ → ℕ → Bool
  -- Item 8: the value that is fixed, if one is
  pub fixed : ℕ → ℕ → Option ℕ

-- ---- from a schema

abbrev pub undeclared : Element
undeclared = record { content = empty; attributes = [] }

abbrev pub element_at : Schema → ℕ → Element
element_at s e = get_or s.elements e undeclared

-- the element has an attribute of that number, with P
abbrev pub has : (Attribute → Bool) → Element → ℕ → Bool
has P x a = some_of (λ y. P y && eqb a y.number) x.attributes

-- the value to which an attribute of that number is fixed, if it is
abbrev pub fixed_to : Element → ℕ → Option ℕ
fixed_to x a = first_with (λ y. is_fixed y && eqb a y.number) (λ y. y.value) x.attributes

abbrev pub described_by : Content → List ℕ → Bool
described_by empty w = false
described_by text w = false
described_by (model e) w = matches e w

abbrev pub begun_by : Content → List ℕ → Bool
begun_by empty w = null w
begun_by text w = null w
begun_by (model e) w = begins e w

abbrev pub of_schema : Schema → Rules
of_schema s = record {
  elements = length s.elements;
  root = s.root;
  kind = λ e. kind_number (element_at s e).content;
  describes = λ e w. described_by (element_at s e).content w;
  begins = λ e w. begun_by (element_at s e).content w;
  allowed = λ e a. has (λ y. true) (element_at s e) a;
  required = λ e a. has is_required (element_at s e) a;
  id = λ e a. has (of_kind 1) (element_at s e) a;
  idref = λ e a. has (of_kind 2) (element_at s e) a;
  idrefs = λ e a. has (of_kind 3) (element_at s e) a;
  fixed = λ e a. fixed_to (element_at s e) a;
}

-- ---- from a table

-- where a run stands: nothing was read yet, or occurrence k was read last
pub data State : Type 0 where
  start : State
  at : ℕ → State

-- "judged by running it: begin in first, move by follow, end in last, or by the no-child flag"
abbrev pub set_at : List ℕ → State → ℕ
set_at b start = cell b first_at
set_at b (at k) = cell b (follow_at + k)

abbrev pub may_end : List ℕ → State → Bool
may_end b start = eqb (cell b no_child_at) 1
may_end b (at k) = bit (cell b last_at) k

-- the occurrence of the name a that comes next; in a proper table there is one at most
abbrev pub move : List ℕ → State → ℕ → Option ℕ
move b s a = find (λ k. bit (set_at b s) k && eqb (cell b (names_at + k)) a) (cell b count_at)

-- the state after the names; none: no next occurrence
abbrev pub run_from : List ℕ → State → List ℕ → Option State
run_from b s [] = some s
run_from b s (a ∷ w) = elim (move b s a) [ none ↦ none | some k ↦ run_from b (at k) w ]

abbrev pub ended : List ℕ → Option State → Bool
ended b none = false
ended b (some s) = may_end b s

abbrev pub runs : List ℕ → List ℕ → Bool
runs b w = ended b (run_from b start w)

-- Item 3: "In a table we didn't translate, it is where the run has no next occurrence."
abbrev pub goes_on : Option State → Bool
goes_on none = false
goes_on (some s) = true

-- the value of the entry of element e and attribute a, if there is one
abbrev pub fixed_by : List Entry → ℕ → ℕ → Option ℕ
fixed_by l e a = first_with (λ x. eqb e x.element && eqb a x.attribute) (λ x. x.value) l

abbrev pub of_table : List ℕ → Rules
of_table t = record {
  elements = get_or t 0 0;
  root = get_or t 1 0;
  kind = λ e. cell (block t e) kind_at;
  describes = λ e w. runs (block t e) w;
  begins = λ e w. goes_on (run_from (block t e) start w);
  allowed = λ e a. bit (cell (block t e) allowed_at) a;
  required = λ e a. bit (cell (block t e) required_at) a;
  id = λ e a. bit (cell (block t e) id_at) a;
  idref = λ e a. bit (cell (block t e) idref_at) a;
  idrefs = λ e a. bit (cell (block t e) idrefs_at) a;
  fixed = λ e a. fixed_by (entries (fixed_part t)) e a;
}
