-- The table after an ATTLIST: its element's row is the new one, and the others stay. Assumes nothing.
use Rattle.std.specs.Prelude.{◌≡◌, refl, ◌≢◌, ◌⊎◌, Bool, true, false, ◌||◌, List, [], ◌∷◌, ◌++◌, ℕ, ◌+◌, ◌*◌, ◌≤◌, ◌<◌, eqb, length, take, set, get_or}
use Rattle.std.proofs.Common.{sym, ap, subst, ◌∙◌, inl, inr, append-nil, arith, add-one, eqb-true, eq-eqb, length-set, take-suc, get_or-set_same, get_or-set_other, get_or-take, length-take-le}
use Rattle.std.proofs.lemmas.List.{map-append, length-map, take-set-le}
use Rattle.paper.specs.Basics.{most_elements}
use Rattle.paper.specs.Dtd.Letters.{Name, same, among}
use Rattle.paper.specs.Dtd.Declarations.{Definition, Declaration, attlist, defined_for, firsts_after, attribute_names}
use Rattle.paper.specs.Dtd.Numbering.{number_in}
use Rattle.basic_laws.specs.Bools.{clash}
use Rattle.dtd_laws.specs.Kept.{words, words_append, same_true}
use Rattle.dtd_laws.specs.Names.{among_append, same_sym}
use Rattle.dtd_names.specs.Named.{name_at, names_at}
use Rattle.dtd_rows.specs.declared.Row.{Row}
use Rattle.dtd_rows.specs.Rows.{no_row, RowOf, row_none}
use Rattle.dtd_rows.specs.Names.{number_of, number_none}
use Rattle.dtd_before.specs.Paths.{declared_to}
use Rattle.dtd_heads.specs.declared.Found.{Found}
use Rattle.dtd_heads.specs.Heads.{row_at, stored, stored_length, stored_other, stored_same, Heads}
use Rattle.dtd_heads.specs.Keeping.{other_at, this_at, others_same, other_row}

-- what is kept where: nothing where there is no room, else the row, and the place of a new name behind the others
abbrev pub Kept : (heads heads' : List ℕ) (many : ℕ) (rows rows' : List ℕ) (h e : ℕ) (row : Row) (many' : ℕ) → Type 0
Kept heads heads' many rows rows' h e row many' =
    ((most_elements ≤ h) × (heads' ≡ heads) × (rows' ≡ rows) × (many' ≡ many))
    ⊎ ((h < most_elements) × (h ≢ many) × (heads' ≡ heads) × (rows' ≡ stored rows h row) × (many' ≡ many))
    ⊎ ((h < most_elements) × (h ≡ many) × (heads' ≡ set heads many e) × (rows' ≡ stored rows h row) × (many' ≡ many + 1))

module _ (text : List ℕ) (old : List Declaration) (heads : List ℕ) (many : ℕ) (rows : List ℕ) (t : Heads text old heads many rows) (e : ℕ)
    (ds : List Definition) (row : Row) (w : RowOf (attribute_names (old ++ attlist (name_at text e) ds ∷ [])) (defined_for (name_at text e) (old ++ attlist (name_at text e) ds ∷ [])) row)
    (h : ℕ) (f : h ≡ number_in (names_at text (take many heads)) (name_at text e)) where
  abbrev n : Name
  n = name_at text e

  abbrev listed : List Name
  listed = names_at text (take many heads)

  abbrev new : List Declaration
  new = old ++ attlist n ds ∷ []

  taken : length (take many heads) ≡ many
  taken = let a = t.fits in let b = t.long in length-take-le many heads (omega arith)

  many_listed : length listed ≡ many
  many_listed = length-map (take many heads) (name_at text) ∙ taken

  at : (i : ℕ) → i < many → get_or (take many heads) i 0 ≡ get_or heads i 0
  at i l = get_or-take many heads i 0 l

  wide : h < most_elements → 5 * h + 4 < length rows
  wide l = let a = t.wide in omega arith

  empty_more : attribute_names (old ++ attlist n [] ∷ []) ≡ attribute_names old
  empty_more = ap (firsts_after []) (words_append old (attlist n [] ∷ []) ∙ append-nil (words old))

  -- a row of another element
  stays : (i : ℕ) (l : i < many) → same (name_at text (get_or heads i 0)) n ≡ false
      → RowOf (attribute_names new) (defined_for (name_at text (get_or heads i 0)) new) (row_at rows i)
  stays i l o = other_row old n (name_at text (get_or heads i 0)) o (row_at rows i) ds empty_more (t.each i l)

  not_listed : among n listed ≡ false → (i : ℕ) → i < many → same (name_at text (get_or heads i 0)) n ≡ false
  not_listed p i l =
      same_sym n (name_at text (get_or heads i 0))
      (subst (λ z. same n (name_at text z) ≡ false) (at i l) (other_at text n (take many heads) i (rw taken l) p))

  no_others : many < most_elements → (m : Name) → among m listed ≡ false → same m n ≡ false → defined_for m new ≡ []
  no_others l m p o = others_same old n m o ds ∙ t.others l m p

  -- ---- no room

  full : most_elements ≤ h → Heads text new heads many rows
  full k = by (among n listed) refl
    where
      by : (b : Bool) → among n listed ≡ b → Heads text new heads many rows
      by true p = let l = number_of listed n p in let a = t.fits in absurd (omega (arith, many_listed))
      by false p = let a = number_none listed n p in record {
        fits = t.fits;
        long = t.long;
        wide = t.wide;
        apart = t.apart;
        each = λ i l. stays i l (not_listed p i l);
        others = λ l m q. absurd (omega (arith, many_listed));
      }

  -- ---- an element that has a row

  again : h < most_elements → h ≢ many → Heads text new heads many (stored rows h row)
  again k d = by (among n listed) refl
    where
      by : (b : Bool) → among n listed ≡ b → Heads text new heads many (stored rows h row)
      by false p = absurd (d (f ∙ number_none listed n p ∙ many_listed))
      by true p = record {
        fits = t.fits;
        long = t.long;
        wide = rw (stored_length rows h row) t.wide;
        apart = t.apart;
        each = λ i l. pick i l (eqb i h) refl;
        others = λ l m q. no_others l m q (differs m q (same m n) refl);
      }
        where
          below : h < many
          below = let l = number_of listed n p in omega (arith, many_listed)

          called : name_at text (get_or heads h 0) ≡ n
          called =
              ap (λ z. name_at text z) (sym (at h below))
              ∙ ap (λ z. name_at text (get_or (take many heads) z 0)) f
              ∙ this_at text n (take many heads) (rw (← f, taken) below)

          differs : (m : Name) → among m listed ≡ false → (b : Bool) → same m n ≡ b → b ≡ false
          differs m q true o = clash p (subst (λ z. among z listed ≡ false) (same_true m n o) q)
          differs m q false o = refl

          pick : (i : ℕ) → i < many → (b : Bool) → eqb i h ≡ b → RowOf (attribute_names new) (defined_for (name_at text (get_or heads i 0)) new) (row_at (stored rows h row) i)
          pick i l true q = rw (eqb-true i h q, called, stored_same rows h row (wide k)) w
          pick i l false q =
              let z : i ≢ h = λ x. clash (eq-eqb i h x) q in
              rw (stored_other rows h row i z) (stays i l (subst (λ x. same (name_at text (get_or heads i 0)) x ≡ false) called (t.apart i h l below z)))

  -- ---- an element that is new

  added : h < most_elements → h ≡ many → Heads text new (set heads many e) (many + 1) (stored rows h row)
  added k d = by (among n listed) refl
    where
      by : (b : Bool) → among n listed ≡ b → Heads text new (set heads many e) (many + 1) (stored rows h row)
      by true p = let l = number_of listed n p in absurd (omega (arith, many_listed))
      by false p = record {
        fits = omega arith;
        long = rw (length-set heads many e) t.long;
        wide = rw (stored_length rows h row) t.wide;
        apart = λ i j a b z. parts i j a b z (eqb i many) (eqb j many) refl refl;
        each = λ i l. pick i l (eqb i many) refl;
        others = λ l m q. rest l m q;
      }
        where
          inside : many < length heads
          inside = let a = t.long in omega arith

          last : get_or (set heads many e) many 0 ≡ e
          last = get_or-set_same heads many e 0 inside

          before : (i : ℕ) → (i ≢ many) → get_or (set heads many e) i 0 ≡ get_or heads i 0
          before i z = get_or-set_other heads many i e 0 z

          apart_from : (i : ℕ) → i < many → same (name_at text (get_or heads i 0)) n ≡ false
          apart_from i l = not_listed p i l

          parts : (i j : ℕ) → i < many + 1 → j < many + 1 → i ≢ j → (b c : Bool) → eqb i many ≡ b → eqb j many ≡ c
              → same (name_at text (get_or (set heads many e) i 0)) (name_at text (get_or (set heads many e) j 0)) ≡ false
          parts i j a b z true true q r = absurd (z (eqb-true i many q ∙ sym (eqb-true j many r)))
          parts i j a b z true false q r =
              let x = eqb-true i many q in
              let y : j ≢ many = λ v. clash (eq-eqb j many v) r in
              rw (x, last, before j y) (same_sym (name_at text (get_or heads j 0)) n (apart_from j (omega arith)))
          parts i j a b z false true q r =
              let x = eqb-true j many r in
              let y : i ≢ many = λ v. clash (eq-eqb i many v) q in
              rw (x, last, before i y) (apart_from i (omega arith))
          parts i j a b z false false q r =
              let x : i ≢ many = λ v. clash (eq-eqb i many v) q in
              let y : j ≢ many = λ v. clash (eq-eqb j many v) r in
              rw (before i x, before j y) (t.apart i j (omega arith) (omega arith) z)

          pick : (i : ℕ) → i < many + 1 → (b : Bool) → eqb i many ≡ b
              → RowOf (attribute_names new) (defined_for (name_at text (get_or (set heads many e) i 0)) new) (row_at (stored rows h row) i)
          pick i l true q = let x : i ≡ many = eqb-true i many q in rw (x, last, ← d, stored_same rows h row (wide k)) w
          pick i l false q =
              let x : i ≢ many = λ v. clash (eq-eqb i many v) q in
              let y : i ≢ h = λ v. x (v ∙ d) in
              rw (before i x, stored_other rows h row i y) (stays i (omega arith) (apart_from i (omega arith)))

          names : names_at text (take (many + 1) (set heads many e)) ≡ listed ++ n ∷ []
          names =
              let a : many < length (set heads many e) = rw (length-set heads many e) inside in
              let q : take (many + 1) (set heads many e) ≡ take many heads ++ e ∷ [] =
              rw (add-one many, take-suc (set heads many e) many 0 a, take-set-le many heads many e (omega arith), last) refl in
              ap (names_at text) q ∙ map-append (name_at text) (take many heads) (e ∷ [])

          or_parts : (x y : Bool) → (x || (y || false)) ≡ false → (x ≡ false) × (y ≡ false)
          or_parts true y q = clash refl q
          or_parts false true q = clash refl q
          or_parts false false q = (refl, refl)

          rest : many + 1 < most_elements → (m : Name) → among m (names_at text (take (many + 1) (set heads many e))) ≡ false → defined_for m new ≡ []
          rest l m q =
              let (x, y) = or_parts (among m listed) (same m n) (sym (among_append m listed (n ∷ [])) ∙ ap (among m) (sym names) ∙ q) in
              no_others (omega arith) m x y

  pub heads_kept : (heads' rows' : List ℕ) (many' : ℕ) → Kept heads heads' many rows rows' h e row many' → Heads text (old ++ attlist (name_at text e) ds ∷ []) heads' many' rows'
  heads_kept heads' rows' many' (inl (k, a, b, c)) = rw (a, b, c) (full k)
  heads_kept heads' rows' many' (inr (inl (k, d, a, b, c))) = rw (a, b, c) (again k d)
  heads_kept heads' rows' many' (inr (inr (k, d, a, b, c))) = rw (a, b, c) (added k d)

-- ---- the row that is found

pub record RowFound (text : List ℕ) (upto e : ℕ) (heads : List ℕ) (many : ℕ) (r : Found) : Type 0 where
  pub place : r.place ≡ number_in (names_at text (take many heads)) (name_at text e)
  pub row_of : RowOf (attribute_names (declared_to text upto)) (defined_for (name_at text e) (declared_to text upto)) r.row

module _ (text : List ℕ) (upto e : ℕ) (heads : List ℕ) (many : ℕ) (rows : List ℕ) (t : Heads text (declared_to text upto) heads many rows) (h : ℕ)
    (f : h ≡ number_in (names_at text (take many heads)) (name_at text e)) (row : Row) where
  pub found_fits : many ≤ length heads
  found_fits = let a = t.fits in let b = t.long in omega arith

  taken_found : length (take many heads) ≡ many
  taken_found = length-take-le many heads found_fits

  pub found_kept : h < many → row ≡ row_at rows h → RowFound text upto e heads many (record { place = h; row = row })
  found_kept l q =
      let g : name_at text (get_or heads h 0) ≡ name_at text e =
      ap (λ z. name_at text z) (sym (get_or-take many heads h 0 l))
      ∙ ap (λ z. name_at text (get_or (take many heads) z 0)) f
      ∙ this_at text (name_at text e) (take many heads) (rw (← f, taken_found) l) in
      record {
        place = f;
        row_of = rw q (subst (λ z. RowOf (attribute_names (declared_to text upto)) (defined_for z (declared_to text upto)) (row_at rows h)) g (t.each h l));
      }

  pub found_none : many ≤ h → many < most_elements → row ≡ no_row → RowFound text upto e heads many (record { place = h; row = row })
  found_none l k q = by (among (name_at text e) (names_at text (take many heads))) refl
    where
      by : (b : Bool) → among (name_at text e) (names_at text (take many heads)) ≡ b → RowFound text upto e heads many (record { place = h; row = row })
      by true p =
          let a = number_of (names_at text (take many heads)) (name_at text e) p in
          absurd (omega (arith, length-map (take many heads) (name_at text), taken_found))
      by false p = record {
        place = f;
        row_of = rw (t.others k (name_at text e) p) (row_none (attribute_names (declared_to text upto)) row q);
      }

  pub found_again : RowOf (attribute_names (declared_to text upto)) (defined_for (name_at text e) (declared_to text upto)) row → RowFound text upto e heads many (record { place = h; row = row })
  found_again w = record { place = f; row_of = w }
