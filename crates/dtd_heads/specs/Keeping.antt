-- A row is kept in the table: what the table is after an ATTLIST. Assumes nothing.
use Rattle.std.specs.Prelude.{◌≡◌, refl, Bool, true, false, cond, ◌||◌, List, [], ◌∷◌, ◌++◌, ℕ, zero, suc, ◌+◌, ◌<◌, length, get_or}
use Rattle.std.proofs.Common.{sym, ◌∙◌, append_assoc, append-nil, arith}
use Rattle.paper.specs.Dtd.Letters.{Name, same, among}
use Rattle.paper.specs.Dtd.Declarations.{Definition, Declaration, attlist, defined_for, attribute_names}
use Rattle.paper.specs.Dtd.Numbering.{number_in}
use Rattle.basic_laws.specs.Bools.{clash}
use Rattle.dtd_laws.specs.Kept.{for_append, same_true}
use Rattle.dtd_names.specs.Named.{name_at, names_at}
use Rattle.dtd_rows.specs.declared.Row.{Row}
use Rattle.dtd_rows.specs.Rows.{called, RowOf, row_name}
use Rattle.dtd_rows.specs.Names.{names_more}
use Rattle.dtd_laws.specs.Names.{for_named}

-- ---- names by their places

module _ (text : List ℕ) (n : Name) where
  pub other_at : (l : List ℕ) (i : ℕ) → i < length l → among n (names_at text l) ≡ false → same n (name_at text (get_or l i 0)) ≡ false
  other_at [] i h p = absurd (omega arith)
  other_at (b ∷ l) i h p = by (same n (name_at text b)) refl p i h (other_at l)
    where
      by : (x : Bool) → same n (name_at text b) ≡ x → (x || among n (names_at text l)) ≡ false → (i : ℕ) → i < suc (length l)
          → ((i : ℕ) → i < length l → among n (names_at text l) ≡ false → same n (name_at text (get_or l i 0)) ≡ false) → same n (name_at text (get_or (b ∷ l) i 0)) ≡ false
      by true q p i h f = clash refl p
      by false q p zero h f = q
      by false q p (suc i) h f = f i (omega arith) p

  pub this_at : (l : List ℕ) → number_in (names_at text l) n < length l → name_at text (get_or l (number_in (names_at text l) n) 0) ≡ n
  this_at [] h = absurd (omega arith)
  this_at (b ∷ l) h = by (same n (name_at text b)) refl h (this_at l)
    where
      by : (x : Bool) → same n (name_at text b) ≡ x → cond x 0 (suc (number_in (names_at text l) n)) < suc (length l)
          → (number_in (names_at text l) n < length l → name_at text (get_or l (number_in (names_at text l) n) 0) ≡ n)
          → name_at text (get_or (b ∷ l) (cond x 0 (suc (number_in (names_at text l) n))) 0) ≡ n
      by true q h f = sym (same_true n (name_at text b) q)
      by false q h f = f (omega arith)

-- ---- another element's row

module _ (old : List Declaration) (n m : Name) (o : same m n ≡ false) where
  pub others_same : (ds : List Definition) → defined_for m (old ++ attlist n ds ∷ []) ≡ defined_for m old
  others_same ds = for_append m old (attlist n ds ∷ []) ∙ rw o (append-nil (defined_for m old))

  grown : (r : Row) (own ds : List Definition) → RowOf (attribute_names (old ++ attlist n own ∷ [])) (defined_for m old) r
      → RowOf (attribute_names (old ++ attlist n (own ++ ds) ∷ [])) (defined_for m old) r
  grown r own [] t = rw (append-nil own) t
  grown r own (d ∷ ds) t = rw (append_assoc own (d ∷ []) ds) at (grown r (own ++ d ∷ []) ds (rw (names_more old n own d) (by (among d.name (attribute_names (old ++ attlist n own ∷ []))) refl)))
    where
      mine : (b : Bool) → among d.name (called (defined_for m old)) ≡ b → among d.name (attribute_names (old ++ attlist n own ∷ [])) ≡ false → b ≡ false
      mine true q p = clash (for_named m d.name (old ++ attlist n own ∷ []) (rw (others_same own) q)) p
      mine false q p = refl

      by : (b : Bool) → among d.name (attribute_names (old ++ attlist n own ∷ [])) ≡ b
          → RowOf (attribute_names (old ++ attlist n own ∷ []) ++ cond b [] (d.name ∷ [])) (defined_for m old) r
      by true p = rw (append-nil (attribute_names (old ++ attlist n own ∷ []))) t
      by false p = row_name (attribute_names (old ++ attlist n own ∷ [])) (defined_for m old) r d.name t (mine (among d.name (called (defined_for m old))) refl p)

  pub other_row : (r : Row) (ds : List Definition) → attribute_names (old ++ attlist n [] ∷ []) ≡ attribute_names old → RowOf (attribute_names old) (defined_for m old) r
      → RowOf (attribute_names (old ++ attlist n ds ∷ [])) (defined_for m (old ++ attlist n ds ∷ [])) r
  other_row r ds e t = rw (others_same ds) (grown r [] ds (rw e t))
