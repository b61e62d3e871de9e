-- The schema that a text is turned into keeps to document 01's limits: the translator can refuse its file for nothing but an ambiguous
-- model. Assumes nothing.
use Rattle.std.specs.Prelude.{◌≡◌, refl, Bool, true, false, cond, not, ◌&&◌, ◌||◌, List, [], ◌∷◌, ◌++◌, map, ℕ, suc, ◌+◌, ◌≤◌, leb, ltb, eqb, length}
use Rattle.std.proofs.Common.{sym, ap, ◌∙◌, arith, le-leb}
use Rattle.std.proofs.Math.Bool.{and-eq-true_iff}
use Rattle.std.proofs.Math.Option.{Option, none, some}
use Rattle.std.proofs.lemmas.Bool.{not-true}
use Rattle.std.proofs.Math.Dec.{leb-zero}
use Rattle.paper.specs.Basics.{most_elements, most_names, most_attributes, most_fixed, all, null, some_of}
use Rattle.paper.specs.Expressions.{count}
use Rattle.paper.specs.Schema.{symbols_of, most_symbols, fixed_in, most_status, most_value}
use Rattle.paper.specs.SchemaWritten.{formed_attributes, formed_content, formed_element, formed_elements, formed}
use Rattle.paper.specs.Dtd.Letters.{Name, same, among}
use Rattle.paper.specs.Dtd.Declarations.{each, Content, empty, text, model, Kind, cdata, id, idref, idrefs, Status, required, implied}
use Rattle.paper.specs.Dtd.Declarations.{Definition, Declaration, element, attlist, element_names, defined_for, defined, attribute_names, is_id}
use Rattle.paper.specs.Dtd.Numbering.{expr_of, model_fits, number_in, content_of, kind_number, status_number, definition_of, attribute_for, attributes_from, elements_from, schema_for}
use Rattle.paper.specs.Dtd.Limits.{content_kept, model_kept, kept, different, one_id, declaration_good}
use Rattle.basic_laws.specs.Bools.{clash}
use Rattle.dtd_laws.specs.Taken.{is_declared, Taken}
use Rattle.dtd_laws.specs.Kept.{few_elements, few_attributes, one_id_lem, good_kept, same_true, same_refl, kind_id}
use Rattle.dtd_laws.specs.Names.{firsts_different, number_below}
use Rattle.dtd_schema_laws.specs.Numbered.{alike, names_each, each_implies}

-- ---- one ID

-- the attribute n is of an ID
abbrev has_id : Name → List Definition → Bool
has_id n [] = false
has_id n (x ∷ l) = cond (same n x.name) (is_id x) (has_id n l)

has_some : (n : Name) (l : List Definition) → has_id n l ≡ true → some_of is_id l ≡ true
has_some n [] p = p
has_some n (x ∷ l) p = by (same n x.name) (is_id x) (has_some n l) p
  where
    by : (a b : Bool) → (has_id n l ≡ true → some_of is_id l ≡ true) → cond a b (has_id n l) ≡ true → (b || some_of is_id l) ≡ true
    by true true h p = refl
    by true false h p = clash p refl
    by false true h p = refl
    by false false h p = h p

one_has : (n m : Name) (l : List Definition) → one_id l ≡ true → has_id n l ≡ true → has_id m l ≡ true → n ≡ m
one_has n m [] o p q = clash p refl
one_has n m (x ∷ l) o p q = by (same n x.name) (same m x.name) (is_id x) refl refl o p q (one_has n m l)
  where
    no_other : (z : Name) {A : Type 0} → not (some_of is_id l) ≡ true → has_id z l ≡ true → A
    no_other z i j = clash (has_some z l j) (not-true (some_of is_id l) i)

    by : (a b c : Bool) → same n x.name ≡ a → same m x.name ≡ b → cond c (not (some_of is_id l)) (one_id l) ≡ true
        → cond a c (has_id n l) ≡ true → cond b c (has_id m l) ≡ true → (one_id l ≡ true → has_id n l ≡ true → has_id m l ≡ true → n ≡ m) → n ≡ m
    by true true c i j o p q h = same_true n x.name i ∙ sym (same_true m x.name j)
    by true false true i j o p q h = no_other m o q
    by true false false i j o p q h = clash p refl
    by false true true i j o p q h = no_other n o p
    by false true false i j o p q h = clash q refl
    by false false true i j o p q h = no_other n o p
    by false false false i j o p q h = h o p q

module _ (own : List Definition) (one : one_id own ≡ true) where
  abbrev no_ids : List Name → Bool
  no_ids l = all (λ n. not (has_id n own)) l

  no_others : (n : Name) (l : List Name) → has_id n own ≡ true → among n l ≡ false → no_ids l ≡ true
  no_others n [] p o = refl
  no_others n (m ∷ l) p o = by (has_id m own) (same n m) refl refl o (no_others n l p)
    where
      by : (a b : Bool) → has_id m own ≡ a → same n m ≡ b → (b || among n l) ≡ false → (among n l ≡ false → no_ids l ≡ true) → not a && no_ids l ≡ true
      by true true i j o h = clash refl o
      by true false i j o h = let d = one_has n m own one p i in clash (rw (← d) (same_refl n)) j
      by false true i j o h = clash refl o
      by false false i j o h = h o

  -- ---- the attributes of one element

  definition_id : (n : Name) (l : List Definition) (d : Definition) → definition_of n l ≡ some d → has_id n l ≡ is_id d
  definition_id n [] d p = let z : ◌≡◌ {A = ℕ} 0 1 = cc in absurd (omega arith)
  definition_id n (x ∷ l) d p = by (same n x.name) (definition_id n l d) p
    where
      by : (a : Bool) → (definition_of n l ≡ some d → has_id n l ≡ is_id d) → cond a (some x) (definition_of n l) ≡ some d → cond a (is_id x) (has_id n l) ≡ is_id d
      by true h p = let e : x ≡ d = cc in rw e
      by false h p = h p

  kind_low : (k : Kind) → leb (kind_number k) 3 ≡ true
  kind_low cdata = refl
  kind_low id = refl
  kind_low idref = refl
  kind_low idrefs = refl

  status_low : (k : Status) (kind met : ℕ) → leb (status_number k) (most_status kind met) ≡ true
  status_low k kind met = go k (eqb kind 0 && ltb met most_fixed)
    where
      go : (k : Status) (b : Bool) → leb (status_number k) (cond b 2 1) ≡ true
      go required true = refl
      go required false = refl
      go implied true = refl
      go implied false = refl

  attributes_formed : (l : List Name) (low i : ℕ) (had : Bool) (met : ℕ) → low ≤ i → i + length l ≤ most_attributes → different l ≡ true → (had ≡ true → no_ids l ≡ true)
      → formed_attributes low had met (attributes_from i l own) ≡ true
  attributes_formed [] low i had met h k o f = refl
  attributes_formed (n ∷ l) low i had met h k o f = by (definition_of n own) refl (attributes_formed l)
    where
      fresh : among n l ≡ false
      fresh = not-true (among n l) ((and-eq-true_iff (not (among n l)) (different l)).0 o).0

      rest : different l ≡ true
      rest = ((and-eq-true_iff (not (among n l)) (different l)).0 o).1

      behind : had ≡ true → no_ids l ≡ true
      behind e = ((and-eq-true_iff (not (has_id n own)) (no_ids l)).0 (f e)).1

      no_second : (d : Definition) → has_id n own ≡ is_id d → (b c : Bool) → had ≡ b → is_id d ≡ c → not (b && c) ≡ true
      no_second d e true true p q = clash (e ∙ q) (not-true (has_id n own) ((and-eq-true_iff (not (has_id n own)) (no_ids l)).0 (f p)).0)
      no_second d e true false p q = refl
      no_second d e false c p q = refl

      later : (d : Definition) → has_id n own ≡ is_id d → (b c : Bool) → had ≡ b → is_id d ≡ c → (b || c) ≡ true → no_ids l ≡ true
      later d e true c p q r = behind p
      later d e false true p q r = no_others n l (e ∙ q) fresh
      later d e false false p q r = clash r refl

      by : (x : Option Definition) → definition_of n own ≡ x
          → ((low i : ℕ) (had : Bool) (met : ℕ) → low ≤ i → i + length l ≤ most_attributes → different l ≡ true → (had ≡ true → no_ids l ≡ true)
          → formed_attributes low had met (attributes_from i l own) ≡ true)
          → formed_attributes low had met (attribute_for i x ++ attributes_from (suc i) l own) ≡ true
      by none p go = go low (suc i) had met (omega arith) (omega arith) rest behind
      by (some d) p go =
          let e = definition_id n own d p in
          rw (le-leb low i h, le-leb i 63 (omega arith), kind_low d.kind, kind_id d, no_second d e had (is_id d) refl refl, status_low d.status (kind_number d.kind) met, leb-zero (most_value (status_number d.status)))
          (go (suc i) (suc i) (had || is_id d) (met + cond (eqb (status_number d.status) 2) 1 0) (omega arith) (omega arith) rest (later d e had (is_id d) refl refl))

  attributes_few : (i : ℕ) (l : List Name) → length (attributes_from i l own) ≤ length l
  attributes_few i [] = omega arith
  attributes_few i (n ∷ l) = by (definition_of n own) (attributes_few (suc i) l)
    where
      by : (x : Option Definition) → length (attributes_from (suc i) l own) ≤ length l → length (attribute_for i x ++ attributes_from (suc i) l own) ≤ suc (length l)
      by none h = omega arith
      by (some d) h = omega arith

-- ---- the schema

module _ (ds : List Declaration) (keeps : kept (is_declared ds) [] ds ≡ true) where
  abbrev number : Name → ℕ
  number n = number_in (element_names ds) n

  elements_length : (l : List Declaration) → length (elements_from ds l) ≡ length (element_names l)
  elements_length [] = refl
  elements_length (element n c ∷ l) = ap suc (elements_length l)
  elements_length (attlist e x ∷ l) = elements_length l

  content_formed : (c : Content) → content_kept (model_kept (is_declared ds)) c ≡ true → formed_content (length (element_names ds)) (content_of number c) ≡ true
  content_formed empty k = refl
  content_formed text k = refl
  content_formed (model p) k =
      let (a, b) = (and-eq-true_iff (each p (is_declared ds)) (model_fits p)).0 k in
      let (c, d) = (and-eq-true_iff (leb (length (symbols_of (expr_of p (λ n. 0)))) most_symbols) (leb (count (expr_of p (λ n. 0))) most_names)).0 b in
      let s = alike number (λ n. 0) p in
      rw (
        s.symbols,
        s.counts,
        c,
        d,
        names_each (λ x. ltb x (length (element_names ds))) number p,
        each_implies (is_declared ds) (λ n. ltb (number n) (length (element_names ds))) (number_below (element_names ds)) p a,
      )

  element_formed : (met : ℕ) (n : Name) (c : Content) → content_kept (model_kept (is_declared ds)) c ≡ true
      → formed_element (length (element_names ds)) met (record { content = content_of number c; attributes = attributes_from 0 (attribute_names ds) (defined_for n ds) }) ≡ true
  element_formed met n c k =
      let one = one_id_lem n (is_declared ds) ds keeps in
      let few = few_attributes (is_declared ds) ds keeps in
      let less = attributes_few (defined_for n ds) one 0 (attribute_names ds) in
      rw (content_formed c k, le-leb (length (attributes_from 0 (attribute_names ds) (defined_for n ds))) most_attributes (omega arith))
      (attributes_formed (defined_for n ds) one (attribute_names ds) 0 0 false met (omega arith) (omega arith) (firsts_different [] (map (λ (d : Definition). d.name) (defined ds))) (λ e. clash e refl))

  elements_formed : (l : List Declaration) (met : ℕ) → all (declaration_good (is_declared ds)) l ≡ true
      → formed_elements (length (element_names ds)) met (elements_from ds l) ≡ true
  elements_formed [] met k = refl
  elements_formed (element n c ∷ l) met k =
      let (a, b) = (and-eq-true_iff (content_kept (model_kept (is_declared ds)) c) (all (declaration_good (is_declared ds)) l)).0 k in
      rw (element_formed met n c a) (elements_formed l (met + fixed_in (attributes_from 0 (attribute_names ds) (defined_for n ds))) b)
  elements_formed (attlist e x ∷ l) met k = elements_formed l met ((and-eq-true_iff (is_declared ds e) (all (declaration_good (is_declared ds)) l)).0 k).1

-- The schema of a text that is taken keeps to document 01's limits.
pub schema_formed : (s : List ℕ) (ds : List Declaration) → Taken s ds → formed (schema_for ds) ≡ true
schema_formed s ds t =
    let few = few_elements (is_declared ds) [] ds (omega arith) t.keeps in
    let more = some_length (element_names ds) t.some_element in
    rw (elements_length ds t.keeps ds, le-leb 1 (length (element_names ds)) more, le-leb (length (element_names ds)) most_elements few)
    (elements_formed ds t.keeps ds 0 (good_kept (is_declared ds) [] ds t.keeps))
  where
    some_length : (l : List Name) → null l ≡ false → 1 ≤ length l
    some_length [] p = clash refl p
    some_length (n ∷ l) p = omega arith
