-- What one element's ATTLISTs define, as sets of attribute numbers: no definition, one more, and one more name. Assumes nothing.
use Rattle.std.specs.Prelude.{◌≡◌, refl, Bool, true, false, cond, not, ◌||◌, List, [], ◌∷◌, ◌++◌, map, ℕ, zero, suc, ◌^◌, ◌≤◌, eqb, length}
use Rattle.std.proofs.Common.{sym, ◌∙◌, arith}
use Rattle.std.proofs.Math.Option.{Option, none, some}
use Rattle.std.specs.Int.Bits.{bit_or}
use Rattle.paper.specs.Basics.{some_of}
use Rattle.paper.specs.Sets.{bit, when}
use Rattle.paper.specs.Dtd.Letters.{Name, same, among}
use Rattle.paper.specs.Dtd.Declarations.{Definition, is_id}
use Rattle.paper.specs.Dtd.Numbering.{kind_number, status_number, definition_of}
use Rattle.basic_laws.specs.Bools.{clash}
use Rattle.paper_laws.specs.Words.{bit_zero}
use Rattle.dtd_rows.specs.declared.Row.{Row}

abbrev pub no_row : Row
no_row = record { allowed = 0; required = 0; id = 0; idref = 0; idrefs = 0 }

-- one more attribute, by its number, kind and status
abbrev pub with_definition : Row → ℕ → ℕ → ℕ → Row
with_definition r n k s = record {
  allowed = bit_or r.allowed (2 ^ n);
  required = bit_or r.required (when (eqb s 0) (2 ^ n));
  id = bit_or r.id (when (eqb k 1) (2 ^ n));
  idref = bit_or r.idref (when (eqb k 2) (2 ^ n));
  idrefs = bit_or r.idrefs (when (eqb k 3) (2 ^ n));
}

-- as the code makes it of the set of the attribute alone
pub with_made : (r : Row) (n k s : ℕ) {o w x y z : ℕ} → o ≡ 2 ^ n → w ≡ when (eqb s 0) o → x ≡ when (eqb k 1) o → y ≡ when (eqb k 2) o → z ≡ when (eqb k 3) o
    → ◌≡◌ {A = Row} (record { allowed = bit_or r.allowed o; required = bit_or r.required w; id = bit_or r.id x; idref = bit_or r.idref y; idrefs = bit_or r.idrefs z }) (with_definition r n k s)
with_made r n k s p q e t u = rw (q, e, t, u, p)

-- ---- which names are meant

abbrev pub called : List Definition → List Name
called own = map (λ (d : Definition). d.name) own

abbrev pub holds : (Definition → Bool) → Option Definition → Bool
holds P none = false
holds P (some d) = P d

-- the i-th name is defined, and P holds of its definition
abbrev pub marked : (Definition → Bool) → List Name → List Definition → ℕ → Bool
marked P [] own i = false
marked P (n ∷ l) own zero = holds P (definition_of n own)
marked P (n ∷ l) own (suc i) = marked P l own i

abbrev pub defines : Definition → Bool
defines d = true

abbrev pub is_required : Definition → Bool
is_required d = eqb (status_number d.status) 0

abbrev pub of_kind : ℕ → Definition → Bool
of_kind k d = eqb (kind_number d.kind) k

abbrev pub Marks : (Definition → Bool) → List Name → List Definition → ℕ → Type 0
Marks P names own w = (i : ℕ) → bit w i ≡ marked P names own i

-- names: the text's attributes; own: what the element's ATTLISTs define
pub record RowOf (names : List Name) (own : List Definition) (r : Row) : Type 0 where
  pub allowed : Marks defines names own r.allowed
  pub required : Marks is_required names own r.required
  pub id : Marks (of_kind 1) names own r.id
  pub idref : Marks (of_kind 2) names own r.idref
  pub idrefs : Marks (of_kind 3) names own r.idrefs
  pub no_id : eqb r.id 0 ≡ not (some_of is_id own)

-- behind the names there is none
pub marked_past : (P : Definition → Bool) (l : List Name) (own : List Definition) (i : ℕ) → length l ≤ i → marked P l own i ≡ false
marked_past P [] own i h = refl
marked_past P (n ∷ l) own zero h = absurd (omega arith)
marked_past P (n ∷ l) own (suc i) h = marked_past P l own i (omega arith)

-- ---- no definition

marked_none : (P : Definition → Bool) (names : List Name) (i : ℕ) → marked P names [] i ≡ false
marked_none P [] i = refl
marked_none P (n ∷ l) zero = refl
marked_none P (n ∷ l) (suc i) = marked_none P l i

marks_none : (P : Definition → Bool) (names : List Name) → Marks P names [] 0
marks_none P names i = bit_zero i ∙ sym (marked_none P names i)

pub row_none : (names : List Name) (r : Row) → r ≡ no_row → RowOf names [] r
row_none names r e = rw e (record {
  allowed = marks_none defines names;
  required = marks_none is_required names;
  id = marks_none (of_kind 1) names;
  idref = marks_none (of_kind 2) names;
  idrefs = marks_none (of_kind 3) names;
  no_id = refl;
})

-- ---- one name more, of no definition

pub undefined : (n : Name) (own : List Definition) → among n (called own) ≡ false → definition_of n own ≡ none
undefined n [] p = refl
undefined n (d ∷ own) p = by (same n d.name) p (undefined n own)
  where
    by : (b : Bool) → (b || among n (called own)) ≡ false → (among n (called own) ≡ false → definition_of n own ≡ none) → cond b (some d) (definition_of n own) ≡ none
    by true p h = clash refl p
    by false p h = h p

marked_name : (P : Definition → Bool) (names : List Name) (own : List Definition) (n : Name) → definition_of n own ≡ none
    → (i : ℕ) → marked P (names ++ n ∷ []) own i ≡ marked P names own i
marked_name P [] own n e zero = rw e
marked_name P [] own n e (suc i) = refl
marked_name P (m ∷ l) own n e zero = refl
marked_name P (m ∷ l) own n e (suc i) = marked_name P l own n e i

pub row_name : (names : List Name) (own : List Definition) (r : Row) (n : Name) → RowOf names own r → among n (called own) ≡ false → RowOf (names ++ n ∷ []) own r
row_name names own r n t p =
    let e = undefined n own p in
    record {
      allowed = λ i. t.allowed i ∙ sym (marked_name defines names own n e i);
      required = λ i. t.required i ∙ sym (marked_name is_required names own n e i);
      id = λ i. t.id i ∙ sym (marked_name (of_kind 1) names own n e i);
      idref = λ i. t.idref i ∙ sym (marked_name (of_kind 2) names own n e i);
      idrefs = λ i. t.idrefs i ∙ sym (marked_name (of_kind 3) names own n e i);
      no_id = t.no_id;
    }
