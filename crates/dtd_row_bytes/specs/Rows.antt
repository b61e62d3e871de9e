-- What is written of a row. Assumes nothing.
use Rattle.std.specs.Prelude.{◌≡◌, refl, Bool, true, false, List, [], ◌∷◌, map, ℕ, ◌*◌, ◌≤◌, ◌<◌, ltb, eqb, length}
use Rattle.std.proofs.Math.Bool.{and-eq-true_iff}
use Rattle.std.proofs.Common.{arith, ltb-true, lt-ltb}
use Rattle.std.proofs.lemmas.List.{length-map}
use Rattle.paper.specs.Basics.{all, cons_if, concat, most_attributes}
use Rattle.paper.specs.Files.{file_of}
use Rattle.paper.specs.Schema.{Attribute}
use Rattle.paper.specs.SchemaWritten.{attribute_written}
use Rattle.paper.specs.Sets.{bit}
use Rattle.dtd_rows.specs.declared.Row.{Row}
use Rattle.dtd_row_bytes.specs.Members.{members_to, members_few, members_below}
use Rattle.numbers.specs.Small.{IsSmall, file_small}

-- by the sets that an attribute is in: ID, IDREF, IDREFS; required
abbrev pub kind_by : Bool → Bool → Bool → ℕ
kind_by true y z = 1
kind_by false true z = 2
kind_by false false true = 3
kind_by false false false = 0

abbrev pub status_by : Bool → ℕ
status_by true = 0
status_by false = 1

abbrev pub kind_in : Row → ℕ → ℕ
kind_in r k = kind_by (bit r.id k) (bit r.idref k) (bit r.idrefs k)

abbrev pub status_in : Row → ℕ → ℕ
status_in r k = status_by (bit r.required k)

abbrev pub attribute_in : Row → ℕ → Attribute
attribute_in r k = record { number = k; kind = kind_in r k; status = status_in r k; value = 0 }

-- attributes in a row, and their count before them
abbrev pub attributes_written : List Attribute → List ℕ
attributes_written l = length l ∷ concat (map attribute_written l)

-- those of a set
abbrev pub attributes_of : Row → ℕ → List Attribute
attributes_of r w = map (attribute_in r) (members_to most_attributes w)

-- in a row
abbrev pub row_from : Row → ℕ → List ℕ
row_from r w = concat (map attribute_written (attributes_of r w))

unfoldable pub row_written : Row → List ℕ
row_written r = attributes_written (attributes_of r r.allowed)

-- ---- how long it is, and that each number is one byte

-- none is fixed, so no value follows
pub no_value : (x : Bool) → cons_if {A = ℕ} (eqb (status_by x) 2) 0 [] ≡ []
no_value true = refl
no_value false = refl

written_length : (r : Row) (l : List ℕ) → length (concat (map attribute_written (map (attribute_in r) l))) ≡ length l * 3
written_length r [] = refl
written_length r (k ∷ l) = rw (no_value (bit r.required k)) (omega (arith, written_length r l))

pub row_short : (r : Row) → length (row_written r) ≤ 193
unfolding row_written
row_short r = omega (arith, written_length r (members_to most_attributes r.allowed), members_few most_attributes r.allowed)

kind_small : (x y z : Bool) → ltb (kind_by x y z) 128 ≡ true
kind_small true y z = refl
kind_small false true z = refl
kind_small false false true = refl
kind_small false false false = refl

status_small : (x : Bool) → ltb (status_by x) 128 ≡ true
status_small true = refl
status_small false = refl

written_small : (r : Row) (l : List ℕ) → all (λ k. ltb k most_attributes) l ≡ true → IsSmall (concat (map attribute_written (map (attribute_in r) l)))
written_small r [] h = refl
written_small r (k ∷ l) h =
    let (a, b) = (and-eq-true_iff (ltb k most_attributes) (all (λ k. ltb k most_attributes) l)).0 h in
    let i : k < most_attributes = ltb-true k most_attributes a in
    rw (lt-ltb k 128 (omega arith), kind_small (bit r.id k) (bit r.idref k) (bit r.idrefs k), status_small (bit r.required k), no_value (bit r.required k)) (written_small r l b)

pub row_file : (r : Row) → file_of (row_written r) ≡ row_written r
unfolding row_written
row_file r =
    let m = members_to most_attributes r.allowed in
    let h : length (map (attribute_in r) m) < 128 = omega (arith, length-map m (attribute_in r), members_few most_attributes r.allowed) in
    file_small (attributes_written (attributes_of r r.allowed)) (rw (lt-ltb (length (map (attribute_in r) m)) 128 h) (written_small r m (members_below most_attributes r.allowed)))
