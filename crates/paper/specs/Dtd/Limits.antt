-- What declarations keep to: one after another, as the reader meets them, and told of the whole text. Assumes nothing.
use Rattle.std.specs.Prelude.{◌≡◌, Bool, true, cond, not, ◌&&◌, List, [], ◌∷◌, ◌++◌, map, ◌≤◌, length}
use Rattle.paper.specs.Basics.{most_elements, most_attributes, all, some_of}
use Rattle.paper.specs.Dtd.Letters.{Name, among}
use Rattle.paper.specs.Dtd.Declarations.{Part, each, Content, empty, text, model, Definition, Declaration, element, attlist}
use Rattle.paper.specs.Dtd.Declarations.{element_names, defined_for, attribute_names, is_id}
use Rattle.paper.specs.Dtd.Numbering.{model_fits}
use Rattle.paper.specs.Dtd.Reading.{new_element, room_for_element, new_attribute, room_for_attribute, id_allowed}

-- ---- one after another

-- P holds of the model, if there is one
abbrev pub content_kept : (Part → Bool) → Content → Bool
content_kept P empty = true
content_kept P text = true
content_kept P (model p) = P p

-- "a model's limits"; every name in it is known
abbrev pub model_kept : (Name → Bool) → Part → Bool
model_kept known p = each p known && model_fits p

-- old: what was declared before, this ATTLIST's own definitions up to here with it
abbrev pub definition_kept : List Declaration → Name → Definition → Bool
definition_kept old e d = new_attribute old e d.name && room_for_attribute old d.name && id_allowed old e d.kind

abbrev pub definitions_kept : List Declaration → Name → (own ds : List Definition) → Bool
definitions_kept old e own [] = true
definitions_kept old e own (d ∷ ds) = definition_kept (old ++ attlist e own ∷ []) e d && definitions_kept old e (own ++ d ∷ []) ds

abbrev pub declaration_kept : (Name → Bool) → List Declaration → Declaration → Bool
declaration_kept known old (element n c) = new_element old n && room_for_element old && content_kept (model_kept known) c
declaration_kept known old (attlist e ds) = known e && definitions_kept old e [] ds

abbrev pub kept : (Name → Bool) → (old ds : List Declaration) → Bool
kept known old [] = true
kept known old (d ∷ ds) = declaration_kept known old d && kept known (old ++ d ∷ []) ds

-- ---- told of the whole text

abbrev pub different : List Name → Bool
different [] = true
different (n ∷ l) = not (among n l) && different l

-- at most one of the definitions is of an ID
abbrev pub one_id : List Definition → Bool
one_id [] = true
one_id (d ∷ l) = cond (is_id d) (not (some_of is_id l)) (one_id l)

-- models within their limits, and no name that is not known
abbrev pub declaration_good : (Name → Bool) → Declaration → Bool
declaration_good known (element n c) = content_kept (model_kept known) c
declaration_good known (attlist e ds) = known e

pub record Within (known : Name → Bool) (ds : List Declaration) : Type 0 where
  -- no element twice, and at most 48 of them
  pub elements_different : different (element_names ds) ≡ true
  pub few_elements : length (element_names ds) ≤ most_elements
  -- none of an element's attributes twice, at most one ID among them, and at most 64 names of attributes in all
  pub attributes_different : (e : Name) → different (map (λ d. d.name) (defined_for e ds)) ≡ true
  pub one_id_lem : (e : Name) → one_id (defined_for e ds) ≡ true
  pub few_attributes : length (attribute_names ds) ≤ most_attributes
  pub each_good : all (declaration_good known) ds ≡ true
