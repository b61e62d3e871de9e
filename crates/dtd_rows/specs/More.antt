-- A row with one definition more. Assumes nothing.
use Rattle.std.specs.Prelude.{◌≡◌, refl, Bool, true, false, cond, not, ◌&&◌, ◌||◌, List, [], ◌∷◌, ◌++◌, ℕ, zero, suc, ◌^◌, ◌<◌, eqb, length}
use Rattle.std.proofs.Common.{sym, ap, subst, ◌∙◌, arith, eq-eqb, ne_eqb}
use Rattle.std.proofs.Math.Bool.{and-eq-true_iff, and-true, and-false, or-true, or-false}
use Rattle.std.proofs.Math.Option.{some}
use Rattle.std.proofs.lemmas.Bool.{not-true}
use Rattle.std.proofs.Math.Dec.{eqb-zero-suc, eqb-suc-zero, eqb-suc-suc}
use Rattle.std.specs.Int.Bits.{bit_or, or_zero_r}
use Rattle.paper.specs.Basics.{some_of}
use Rattle.paper.specs.Sets.{bit, when}
use Rattle.paper.specs.Dtd.Letters.{Name, same, among}
use Rattle.paper.specs.Dtd.Declarations.{Definition, is_id}
use Rattle.paper.specs.Dtd.Numbering.{number_in, kind_number, status_number, definition_of}
use Rattle.paper.specs.Dtd.Limits.{different}
use Rattle.basic_laws.specs.Bools.{clash}
use Rattle.paper_laws.specs.Words.{bit_of_or, bit_when, bit_one, bit_zero}
use Rattle.dtd_laws.specs.Kept.{same_true, same_refl, some_append, kind_id}
use Rattle.dtd_laws.specs.Names.{same_sym}
use Rattle.dtd_rows.specs.Rows.{with_definition, called, holds, marked, defines, is_required, of_kind, Marks, RowOf, undefined}
use Rattle.dtd_rows.specs.declared.Row.{Row}

-- ---- which names are meant

other_last : (n : Name) (own : List Definition) (d : Definition) → same n d.name ≡ false → definition_of n (own ++ d ∷ []) ≡ definition_of n own
other_last n [] d p = rw p
other_last n (x ∷ own) d p = ap (cond (same n x.name) (some x)) (other_last n own d p)

this_last : (n : Name) (own : List Definition) (d : Definition) → same n d.name ≡ true → among n (called own) ≡ false
    → definition_of n (own ++ d ∷ []) ≡ some d
this_last n [] d q p = rw q
this_last n (x ∷ own) d q p = by (same n x.name) p (this_last n own d q)
  where
    by : (b : Bool) → (b || among n (called own)) ≡ false → (among n (called own) ≡ false → definition_of n (own ++ d ∷ []) ≡ some d)
        → cond b (some x) (definition_of n (own ++ d ∷ [])) ≡ some d
    by true p h = clash refl p
    by false p h = h p

module _ (P : Definition → Bool) (own : List Definition) (d : Definition) where
  -- names that are not that one
  marked_others : (l : List Name) → among d.name l ≡ false → (i : ℕ) → marked P l (own ++ d ∷ []) i ≡ marked P l own i
  marked_others [] p i = refl
  marked_others (n ∷ l) p zero = by (same d.name n) refl p
    where
      by : (b : Bool) → same d.name n ≡ b → (b || among d.name l) ≡ false → holds P (definition_of n (own ++ d ∷ [])) ≡ holds P (definition_of n own)
      by true q p = clash refl p
      by false q p = ap (holds P) (other_last n own d (same_sym d.name n q))
  marked_others (n ∷ l) p (suc i) = marked_others l (or_parts (same d.name n) (among d.name l) p) i
    where
      or_parts : (x y : Bool) → (x || y) ≡ false → y ≡ false
      or_parts true y q = clash refl q
      or_parts false y q = q

  module _ (new : among d.name (called own) ≡ false) where
    marked_more : (l : List Name) → different l ≡ true → number_in l d.name < length l
        → (i : ℕ) → marked P l (own ++ d ∷ []) i ≡ (marked P l own i || (P d && eqb i (number_in l d.name)))
    marked_more [] o h i = absurd (omega arith)
    marked_more (n ∷ l) o h i = by (same d.name n) refl h i (λ k. marked_more l rest k)
      where
        fresh : among n l ≡ false
        fresh = not-true (among n l) ((and-eq-true_iff (not (among n l)) (different l)).0 o).0

        rest : different l ≡ true
        rest = ((and-eq-true_iff (not (among n l)) (different l)).0 o).1

        here : same d.name n ≡ true → (i : ℕ) → marked P (n ∷ l) (own ++ d ∷ []) i ≡ (marked P (n ∷ l) own i || (P d && eqb i 0))
        here q zero =
            let e : d.name ≡ n = same_true d.name n q in
            let q' = subst (λ z. same z d.name ≡ true) e (same_refl d.name) in
            let new' = subst (λ z. among z (called own) ≡ false) e new in
            ap (holds P) (this_last n own d q' new') ∙ sym (rw (undefined n own new') (and-true (P d)))
        here q (suc i) =
            let e : d.name ≡ n = same_true d.name n q in
            marked_others l (rw (← e) at fresh) i ∙ sym (rw (eqb-suc-zero i, and-false (P d)) (or-false (marked P l own i)))

        there : same d.name n ≡ false → number_in l d.name < length l → (i : ℕ)
            → ((i : ℕ) → marked P l (own ++ d ∷ []) i ≡ (marked P l own i || (P d && eqb i (number_in l d.name))))
            → marked P (n ∷ l) (own ++ d ∷ []) i ≡ (marked P (n ∷ l) own i || (P d && eqb i (suc (number_in l d.name))))
        there q h zero ih =
            ap (holds P) (other_last n own d (same_sym d.name n q))
            ∙ sym (rw (eqb-zero-suc (number_in l d.name), and-false (P d)) (or-false (holds P (definition_of n own))))
        there q h (suc i) ih = ih i ∙ rw (eqb-suc-suc i (number_in l d.name))

        by : (b : Bool) → same d.name n ≡ b → cond b 0 (suc (number_in l d.name)) < suc (length l) → (i : ℕ)
            → (number_in l d.name < length l → (i : ℕ) → marked P l (own ++ d ∷ []) i ≡ (marked P l own i || (P d && eqb i (number_in l d.name))))
            → marked P (n ∷ l) (own ++ d ∷ []) i ≡ (marked P (n ∷ l) own i || (P d && eqb i (cond b 0 (suc (number_in l d.name)))))
        by true q h i ih = here q i
        by false q h i ih = there q (omega arith) i (ih (omega arith))

    marks_more : (l : List Name) → different l ≡ true → number_in l d.name < length l → (w : ℕ) → Marks P l own w
        → Marks P l (own ++ d ∷ []) (bit_or w (when (P d) (2 ^ number_in l d.name)))
    marks_more l o h w t i =
        let k : ℕ = number_in l d.name in
        bit_of_or w (when (P d) (2 ^ k)) i ∙ rw (bit_when (P d) (2 ^ k) i, bit_one k i, t i) (sym (marked_more l o h i))

-- an ID among them, or none
some_bit : (w k : ℕ) → eqb (bit_or w (2 ^ k)) 0 ≡ false
some_bit w k = ne_eqb (bit_or w (2 ^ k)) 0 (λ e. clash (set k) (ap (λ v. bit v k) e ∙ bit_zero k))
  where
    set : (k : ℕ) → bit (bit_or w (2 ^ k)) k ≡ true
    set k = bit_of_or w (2 ^ k) k ∙ rw (bit_one k k, eq-eqb k k refl) (or-true (bit w k))

id_more : (own : List Definition) (d : Definition) (w k : ℕ) → eqb w 0 ≡ not (some_of is_id own)
    → eqb (bit_or w (when (eqb (kind_number d.kind) 1) (2 ^ k))) 0 ≡ not (some_of is_id (own ++ d ∷ []))
id_more own d w k p = rw (kind_id d, some_append own d) (by (is_id d))
  where
    by : (b : Bool) → eqb (bit_or w (when b (2 ^ k))) 0 ≡ not (some_of is_id own || b)
    by true = some_bit w k ∙ sym (ap not (or-true (some_of is_id own)))
    by false = ap (λ v. eqb v 0) (or_zero_r w) ∙ p ∙ sym (ap not (or-false (some_of is_id own)))

pub row_more : (names : List Name) (own : List Definition) (r s : Row) (d : Definition) → RowOf names own r → different names ≡ true
    → number_in names d.name < length names → among d.name (called own) ≡ false
    → s ≡ with_definition r (number_in names d.name) (kind_number d.kind) (status_number d.status) → RowOf names (own ++ d ∷ []) s
row_more names own r s d t o h new e = rw e (record {
  allowed = marks_more defines own d new names o h r.allowed t.allowed;
  required = marks_more is_required own d new names o h r.required t.required;
  id = marks_more (of_kind 1) own d new names o h r.id t.id;
  idref = marks_more (of_kind 2) own d new names o h r.idref t.idref;
  idrefs = marks_more (of_kind 3) own d new names o h r.idrefs t.idrefs;
  no_id = id_more own d r.id (number_in names d.name) t.no_id;
})
