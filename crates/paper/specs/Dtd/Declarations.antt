-- What a DTD text declares, as data. Assumes nothing.
use Rattle.std.specs.Prelude.{Bool, true, false, cond, ◌&&◌, List, [], ◌∷◌, ◌++◌, map}
use Rattle.paper.specs.Dtd.Letters.{Name, same, among}

-- ---- declarations

-- nothing, `?`, `*` or `+` behind a part of a model
pub data Suffix : Type 0 where
  once maybe many several : Suffix

infixr 20 ◌and◌
-- A model's part is a name, a bracket with parts in sequence, or a bracket with a choice of two parts or more.
mutual
  pub data Part : Type 0 where
    word : Name → Suffix → Part
    sequence : Parts → Suffix → Part
    choice : Part → Parts → Suffix → Part

  -- one part or more, in a row
  pub data Parts : Type 0 where
    only : Part → Parts
    ◌and◌ : Part → Parts → Parts

-- P holds of every name in it
abbrev mutual
  pub each : Part → (Name → Bool) → Bool
  each (word n q) P = P n
  each (sequence ps q) P = each_of ps P
  each (choice p ps q) P = each p P && each_of ps P

  pub each_of : Parts → (Name → Bool) → Bool
  each_of (only p) P = each p P
  each_of (p and ps) P = each p P && each_of ps P

-- Item 4: "ELEMENT with EMPTY, (#PCDATA) or a model"
pub data Content : Type 0 where
  empty text : Content
  model : Part → Content

-- Item 4: "the four kinds and two statuses"
pub data Kind : Type 0 where
  cdata id idref idrefs : Kind

pub data Status : Type 0 where
  required implied : Status

pub record Definition : Type 0 where
  pub name : Name
  pub kind : Kind
  pub status : Status

pub data Declaration : Type 0 where
  element : Name → Content → Declaration
  attlist : Name → List Definition → Declaration

-- ---- what the declarations hold

-- the elements, by declaration
abbrev pub element_names : List Declaration → List Name
element_names [] = []
element_names (element n c ∷ ds) = n ∷ element_names ds
element_names (attlist n l ∷ ds) = element_names ds

-- an element's attributes: all its ATTLISTs together, wherever they stand
abbrev pub defined_for : Name → List Declaration → List Definition
defined_for e [] = []
defined_for e (element n c ∷ ds) = defined_for e ds
defined_for e (attlist n l ∷ ds) = cond (same e n) (l ++ defined_for e ds) (defined_for e ds)

-- every attribute of the text, in its order
abbrev pub defined : List Declaration → List Definition
defined [] = []
defined (element n c ∷ ds) = defined ds
defined (attlist n l ∷ ds) = l ++ defined ds

-- the names in l that are not among those before them
abbrev pub firsts_after : List Name → List Name → List Name
firsts_after before [] = []
firsts_after before (n ∷ l) = cond (among n before) (firsts_after before l) (n ∷ firsts_after (n ∷ before) l)

-- "attributes by first appearance in the whole text (one number for each different name)"
abbrev pub attribute_names : List Declaration → List Name
attribute_names ds = firsts_after [] (map (λ d. d.name) (defined ds))

abbrev pub is_id : Definition → Bool
is_id d = elim d.kind [ cdata ↦ false | id ↦ true | idref ↦ false | idrefs ↦ false ]
