-- The attributes of a row are those that the element's ATTLISTs define, by rising number. Assumes nothing.
use Rattle.std.specs.Prelude.{◌≡◌, refl, false, List, [], ◌∷◌, ◌++◌, map, ℕ, zero, suc, ◌+◌, ◌/◌, ◌%◌, ◌≤◌, eqb, length}
use Rattle.std.proofs.Common.{sym, ap, ap₂, ◌∙◌, arith}
use Rattle.std.proofs.Math.Option.{Option, none, some}
use Rattle.paper.specs.Basics.{cons_if, from, most_attributes}
use Rattle.paper.specs.Files.{file_of}
use Rattle.paper.specs.Sets.{bit}
use Rattle.paper.specs.Table.{chosen}
use Rattle.paper.specs.Dtd.Letters.{Name}
use Rattle.paper.specs.Dtd.Declarations.{Kind, cdata, id, idref, idrefs, Status, required, implied, Definition}
use Rattle.paper.specs.Dtd.Numbering.{kind_number, status_number, definition_of, attribute_for, attributes_from}
use Rattle.paper_laws.specs.Words.{bit_low, bit_half}
use Rattle.dtd_rows.specs.declared.Row.{Row}
use Rattle.dtd_rows.specs.Rows.{holds, marked, defines, is_required, of_kind, RowOf}
use Rattle.dtd_row_bytes.specs.Members.{members_to}
use Rattle.dtd_row_bytes.specs.Rows.{kind_by, status_by, attribute_in, attributes_written, attributes_of, row_written, row_file}

kind_back : (k : Kind) → kind_by (eqb (kind_number k) 1) (eqb (kind_number k) 2) (eqb (kind_number k) 3) ≡ kind_number k
kind_back cdata = refl
kind_back id = refl
kind_back idref = refl
kind_back idrefs = refl

status_back : (s : Status) → status_by (eqb (status_number s) 0) ≡ status_number s
status_back required = refl
status_back implied = refl

module _ (r : Row) (own : List Definition) where
  -- from number i on, the sets of kinds and of required ones are those of the names l
  record Told (i : ℕ) (l : List Name) : Type 0 where
    required : (j : ℕ) → bit r.required (i + j) ≡ marked is_required l own j
    id : (j : ℕ) → bit r.id (i + j) ≡ marked (of_kind 1) l own j
    idref : (j : ℕ) → bit r.idref (i + j) ≡ marked (of_kind 2) l own j
    idrefs : (j : ℕ) → bit r.idrefs (i + j) ≡ marked (of_kind 3) l own j

  later : (i : ℕ) (n : Name) (l : List Name) → Told i (n ∷ l) → Told (suc i) l
  later i n l t = record {
    required = λ j. ap (bit r.required) (omega arith) ∙ t.required (suc j);
    id = λ j. ap (bit r.id) (omega arith) ∙ t.id (suc j);
    idref = λ j. ap (bit r.idref) (omega arith) ∙ t.idref (suc j);
    idrefs = λ j. ap (bit r.idrefs) (omega arith) ∙ t.idrefs (suc j);
  }

  -- one that is defined
  one : (i : ℕ) (n : Name) (l : List Name) (d : Definition) → definition_of n own ≡ some d → Told i (n ∷ l)
      → attribute_in r i ≡ record { number = i; kind = kind_number d.kind; status = status_number d.status; value = 0 }
  one i n l d e t =
      let z : i ≡ i + 0 = omega arith in
      let a : bit r.required i ≡ is_required d = ap (bit r.required) z ∙ t.required 0 ∙ ap (holds is_required) e in
      let b : bit r.id i ≡ of_kind 1 d = ap (bit r.id) z ∙ t.id 0 ∙ ap (holds (of_kind 1)) e in
      let c : bit r.idref i ≡ of_kind 2 d = ap (bit r.idref) z ∙ t.idref 0 ∙ ap (holds (of_kind 2)) e in
      let f : bit r.idrefs i ≡ of_kind 3 d = ap (bit r.idrefs) z ∙ t.idrefs 0 ∙ ap (holds (of_kind 3)) e in
      ap₂ (λ k s. record { number = i; kind = k; status = s; value = 0 }) (rw (b, c, f) (kind_back d.kind)) (rw a (status_back d.status))

  none_left : (n i w : ℕ) → ((j : ℕ) → bit w j ≡ false) → chosen w (from i n) ≡ []
  none_left zero i w h = refl
  none_left (suc n) i w h = rw (sym (bit_low w) ∙ h 0) (none_left n (suc i) (w / 2) (λ j. sym (bit_half w j) ∙ h (suc j)))

  walk : (l : List Name) (n i w : ℕ) → length l ≤ n → ((j : ℕ) → bit w j ≡ marked defines l own j) → Told i l
      → attributes_from i l own ≡ map (attribute_in r) (chosen w (from i n))
  walk [] n i w h m t = sym (ap (map (attribute_in r)) (none_left n i w m))
  walk (a ∷ l) zero i w h m t = absurd (omega arith)
  walk (a ∷ l) (suc n) i w h m t =
      by (definition_of a own) refl (walk l n (suc i) (w / 2) (omega arith) (λ j. sym (bit_half w j) ∙ m (suc j)) (later i a l t))
    where
      by : (o : Option Definition) → definition_of a own ≡ o → attributes_from (suc i) l own ≡ map (attribute_in r) (chosen (w / 2) (from (suc i) n))
          → attribute_for i o ++ attributes_from (suc i) l own ≡ map (attribute_in r) (cons_if (eqb (w % 2) 1) i (chosen (w / 2) (from (suc i) n)))
      by none e ih = rw (sym (bit_low w) ∙ m 0 ∙ ap (holds defines) e) ih
      by (some d) e ih = rw (sym (bit_low w) ∙ m 0 ∙ ap (holds defines) e) (ap₂ (λ x y. x ∷ y) (sym (one i a l d e t)) ih)

pub row_attributes : (names : List Name) (own : List Definition) (r : Row) → RowOf names own r → length names ≤ most_attributes
    → attributes_from 0 names own ≡ attributes_of r r.allowed
unfolding members_to
row_attributes names own r t h = walk r own names most_attributes 0 r.allowed h t.allowed (record {
  required = λ j. ap (bit r.required) (omega arith) ∙ t.required j;
  id = λ j. ap (bit r.id) (omega arith) ∙ t.id j;
  idref = λ j. ap (bit r.idref) (omega arith) ∙ t.idref j;
  idrefs = λ j. ap (bit r.idrefs) (omega arith) ∙ t.idrefs j;
})

-- so the bytes of those are what is written of the row
pub row_written_lem : (names : List Name) (own : List Definition) (r : Row) → RowOf names own r → length names ≤ most_attributes
    → file_of (attributes_written (attributes_from 0 names own)) ≡ row_written r
unfolding row_written
row_written_lem names own r t h = ap (λ l. file_of (attributes_written l)) (row_attributes names own r t h) ∙ row_file r
