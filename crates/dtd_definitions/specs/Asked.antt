-- What is asked of a definition, by the numbers of names and by a row: the same as the reader asks. Assumes nothing.
use Rattle.std.specs.Prelude.{◌≡◌, refl, Bool, true, false, not, ◌&&◌, ◌||◌, List, ℕ, ◌≤◌, eqb, ltb, length}
use Rattle.std.proofs.Common.{sym, ap, ◌∙◌, arith, lt-ltb}
use Rattle.std.proofs.Math.Path.{fun_ext}
use Rattle.std.proofs.Math.Bool.{and-false}
use Rattle.paper.specs.Basics.{most_attributes}
use Rattle.paper.specs.Sets.{bit}
use Rattle.paper.specs.Dtd.Letters.{Name, among}
use Rattle.paper.specs.Dtd.Declarations.{Kind, cdata, id, idref, idrefs, Definition, Declaration, defined_for, attribute_names}
use Rattle.paper.specs.Dtd.Numbering.{number_in, kind_number}
use Rattle.paper.specs.Dtd.Readers.{Reader}
use Rattle.paper.specs.Dtd.Reading.{new_attribute, room_for_attribute, id_allowed, att_def}
use Rattle.basic_laws.specs.Bools.{clash}
use Rattle.dtd_laws.specs.Attributes.{definition_by}
use Rattle.dtd_laws.specs.Names.{for_named}
use Rattle.dtd_rows.specs.declared.Row.{Row}
use Rattle.dtd_rows.specs.Rows.{called, marked_past, defines, RowOf}
use Rattle.dtd_rows.specs.Names.{number_of, number_none}
use Rattle.dtd_rows.specs.Asked.{row_has}

-- ---- by numbers

abbrev pub new_in : List Name → Row → Name → Bool
new_in names r a = not (ltb (number_in names a) most_attributes && bit r.allowed (number_in names a))

abbrev pub room_in : List Name → Name → Bool
room_in names a = ltb (number_in names a) most_attributes

abbrev pub ids_in : Row → Kind → Bool
ids_in r k = not (eqb (kind_number k) 1 && not (eqb r.id 0))

abbrev pub definition_in : List Name → Row → Reader Definition
definition_in names r = definition_by (new_in names r) (room_in names) (ids_in r)

-- ---- the same

module _ (old : List Declaration) (e : Name) (r : Row) (t : RowOf (attribute_names old) (defined_for e old) r) where
  abbrev names : List Name
  names = attribute_names old

  new_same : length (attribute_names old) ≤ most_attributes → (a : Name) → new_in names r a ≡ new_attribute old e a
  new_same few a = ap not (by (among a names) refl)
    where
      other : (b : Bool) → among a (called (defined_for e old)) ≡ b → among a names ≡ false → b ≡ false
      other true q p = clash (for_named e a old q) p
      other false q p = refl

      by : (b : Bool) → among a names ≡ b → (ltb (number_in names a) most_attributes && bit r.allowed (number_in names a)) ≡ among a (called (defined_for e old))
      by true p =
          let h = number_of names a p in
          rw (lt-ltb (number_in names a) most_attributes (omega arith)) (row_has names (defined_for e old) r a t h)
      by false p =
          let h = number_none names a p in
          let z = t.allowed (number_in names a) ∙ marked_past defines names (defined_for e old) (number_in names a) (omega arith) in
          rw (z, and-false (ltb (number_in names a) most_attributes)) (sym (other (among a (called (defined_for e old))) refl p))

  room_same : length (attribute_names old) ≤ most_attributes → (a : Name) → room_in names a ≡ room_for_attribute old a
  room_same few a = by (among a names) refl
    where
      by : (b : Bool) → among a names ≡ b → ltb (number_in names a) most_attributes ≡ (b || ltb (length names) most_attributes)
      by true p = let h = number_of names a p in lt-ltb (number_in names a) most_attributes (omega arith)
      by false p = ap (λ z. ltb z most_attributes) (number_none names a p)

  ids_same : (k : Kind) → ids_in r k ≡ id_allowed old e k
  ids_same cdata = refl
  ids_same id = double (eqb r.id 0) ∙ t.no_id
    where
      double : (b : Bool) → not (not b) ≡ b
      double true = refl
      double false = refl
  ids_same idref = refl
  ids_same idrefs = refl

  pub definition_same : (known : Name → Bool) → length (attribute_names old) ≤ most_attributes → (s : List ℕ)
      → definition_in (attribute_names old) r s ≡ att_def known old e s
  definition_same known few s =
      let n = fun_ext (new_same few) in
      let m = fun_ext (room_same few) in
      let i = fun_ext ids_same in
      ap (λ f. definition_by f (room_in names) (ids_in r) s) n
      ∙ ap (λ f. definition_by (new_attribute old e) f (ids_in r) s) m
      ∙ ap (λ f. definition_by (new_attribute old e) (room_for_attribute old) f s) i
