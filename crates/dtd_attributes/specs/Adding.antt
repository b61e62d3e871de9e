-- The definitions of an ATTLIST, one after another: turns of the loop. Assumes nothing.
use Rattle.std.specs.Prelude.{◌≡◌, refl, Bool, true, false, cond, ◌&&◌, Result, Ok, Err, List, [], ◌∷◌, ◌++◌, ℕ, zero, suc, ◌+◌, ◌-◌, ◌≤◌, ◌<◌, length, drop, take}
use Rattle.std.proofs.Common.{sym, ap, subst, ◌∙◌, append_assoc, append-nil, arith, ltb-true, length-drop, length-take-le}
use Rattle.std.proofs.Math.Bool.{and-eq-true_iff}
use Rattle.std.proofs.lemmas.Bool.{not-true}
use Rattle.std.proofs.lemmas.List.{length-map}
use Rattle.paper.specs.Basics.{most_attributes}
use Rattle.paper.specs.Codes.{kind_of, status_of}
use Rattle.paper.specs.Dtd.Letters.{Name, is_white, past, among, greater}
use Rattle.paper.specs.Dtd.Declarations.{Definition, Declaration, attlist, defined_for, firsts_after, attribute_names}
use Rattle.paper.specs.Dtd.Numbering.{number_in, kind_number, status_number}
use Rattle.paper.specs.Dtd.Limits.{different}
use Rattle.paper.specs.Dtd.Grammar as G
use Rattle.paper.specs.Dtd.Readers.{Read, stop, ok, Reader, onward, bounded, pure, ◌>>◌, mark, S?}
use Rattle.paper.specs.Dtd.Reading.{new_attribute, room_for_attribute, id_allowed, att_def, due, att_defs}
use Rattle.dtd_laws.specs.Unique.{any}
use Rattle.dtd_laws.specs.Attributes.{definition_exact, asked_exact, definition_strict}
use Rattle.dtd_laws.specs.Kept.{words, words_append}
use Rattle.dtd_laws.specs.Names.{own_for, names_different}
use Rattle.dtd_words.specs.declared.Fault.{Fault}
use Rattle.dtd_words.specs.Places.{At}
use Rattle.dtd_words.specs.Words.{CameTo, Came, faulty, came_faulty}
use Rattle.dtd_names.specs.Named.{name_at, names_at}
use Rattle.dtd_rows.specs.declared.Row.{Row}
use Rattle.dtd_rows.specs.Rows.{with_definition, called, RowOf, row_name}
use Rattle.dtd_rows.specs.More.{row_more}
use Rattle.dtd_rows.specs.Names.{with_name, number_same, number_within, names_more}
use Rattle.dtd_before.specs.Paths.{declared_to}
use Rattle.dtd_before.specs.Scans.{Ready}
use Rattle.dtd_definitions.specs.declared.Defined.{Defined}
use Rattle.dtd_definitions.specs.Asked.{new_in, room_in, ids_in, definition_in, definition_same}
use Rattle.dtd_definitions.specs.Whole.{DefinitionIs, DefinitionCame}
use Rattle.dtd_attributes.specs.declared.Ended.{Ended}
use Rattle.dtd_attributes.specs.Noting.{Noted, noted_names}

abbrev pub greater_after : Reader (Unit {0})
greater_after = S? >> mark greater

-- ---- one name more, and one definition more

for_more : (old : List Declaration) (e : Name) (own : List Definition) (d : Definition)
    → defined_for e (old ++ attlist e (own ++ d ∷ []) ∷ []) ≡ defined_for e (old ++ attlist e own ∷ []) ++ d ∷ []
for_more old e own d =
    own_for old e (own ++ d ∷ [])
    ∙ sym (append_assoc (defined_for e old) own (d ∷ []))
    ∙ ap (λ l. l ++ d ∷ []) (sym (own_for old e own))

-- a row with the name, whether it is new or not
row_with : (names : List Name) (own : List Definition) (r : Row) (a : Name) → RowOf names own r → among a (called own) ≡ false → RowOf (with_name names a) own r
row_with names own r a t p = by (among a names)
  where
    by : (b : Bool) → RowOf (names ++ cond b [] (a ∷ [])) own r
    by true = rw (append-nil names) t
    by false = row_name names own r a t p

-- ---- where it begins

module _ (text : List ℕ) (upto e : ℕ) where
  abbrev old : List Declaration
  old = declared_to text upto

  abbrev n : Name
  n = name_at text e

  -- the definitions, from behind the name on
  abbrev pub definitions : Reader (List Definition)
  definitions = bounded (λ b. att_defs any (declared_to text upto) (name_at text e) b [])

  -- what their reader came to: the names of the text's attributes then, and the element's row
  abbrev pub EndIs : List ℕ → Ended → List Definition → List ℕ → Type 0
  EndIs exit r ds s =
      At text r.at s
      × (r.count ≤ most_attributes)
      × (names_at text (take r.count exit) ≡ attribute_names (declared_to text upto ++ attlist (name_at text e) ds ∷ []))
      × RowOf (attribute_names (declared_to text upto ++ attlist (name_at text e) ds ∷ [])) (defined_for (name_at text e) (declared_to text upto ++ attlist (name_at text e) ds ∷ [])) r.row

  abbrev pub EndCame : List ℕ → Result Ended Fault → Read (List Definition) → Type 0
  EndCame exit r o = CameTo (EndIs exit) text r o

  pub record Opened (attributes : List ℕ) (count at : ℕ) (row : Row) : Type 0 where
    pub inside : at ≤ length text
    pub long : most_attributes ≤ length attributes
    pub few : count ≤ most_attributes
    pub ready : Ready text upto (take count attributes)
    pub row_of : RowOf (attribute_names (declared_to text upto)) (defined_for (name_at text e) (declared_to text upto)) row

  -- at i: own are the ATTLIST's definitions up to there
  pub record Adding (at : ℕ) (attributes : List ℕ) (count i : ℕ) (row : Row) : Type 0 where
    pub inside : i ≤ length text
    pub long : most_attributes ≤ length attributes
    pub few : count ≤ most_attributes
    pub own : List Definition
    pub bound : ℕ
    pub enough : length (drop i text) < bound
    pub reads : definitions (drop at text) ≡ att_defs any (declared_to text upto) (name_at text e) bound own (drop i text)
    pub names : names_at text (take count attributes) ≡ attribute_names (declared_to text upto ++ attlist (name_at text e) own ∷ [])
    pub row_of : RowOf (attribute_names (declared_to text upto ++ attlist (name_at text e) own ∷ [])) (defined_for (name_at text e) (declared_to text upto ++ attlist (name_at text e) own ∷ [])) row

  module _ (at : ℕ) (attributes : List ℕ) (count : ℕ) (row : Row) where
    pub adding_begun : Opened attributes count at row → Adding at attributes count at row
    adding_begun o =
        let p : attribute_names (old ++ attlist n [] ∷ []) ≡ attribute_names old = ap (firsts_after []) (words_append old (attlist n [] ∷ []) ∙ append-nil (words old)) in
        let q : defined_for n (old ++ attlist n [] ∷ []) ≡ defined_for n old = own_for old n [] ∙ append-nil (defined_for n old) in
        record {
          inside = o.inside;
          long = o.long;
          few = o.few;
          own = [];
          bound = suc (length (drop at text));
          enough = omega arith;
          reads = refl;
          names = o.ready.alike ∙ sym p;
          row_of = rw (p, q) o.row_of;
        }

  module _ (at : ℕ) (attributes : List ℕ) (count i : ℕ) (row : Row) (c : Adding at attributes count i row) where
    pub adding_fits : count ≤ length attributes
    adding_fits = let h = c.few in let k = c.long in omega arith

    -- what was declared, the definitions up to here with it
    abbrev upto_here : List Declaration
    upto_here = old ++ attlist n c.own ∷ []

    few_names : length (attribute_names upto_here) ≤ most_attributes
    few_names =
        let k = c.few in
        let l = ap length (sym c.names) ∙ length-map (take count attributes) (name_at text) ∙ length-take-le count attributes adding_fits in
        omega arith

    module _ (b : Bool) (q : b ≡ due any (drop i text)) where
      -- ---- no definition more

      finished : b ≡ false → definitions (drop at text) ≡ onward (greater_after (drop i text)) (λ u. pure c.own)
      finished p = c.reads ∙ by c.bound c.enough
        where
          by : (k : ℕ) → length (drop i text) < k → att_defs any old n k c.own (drop i text) ≡ onward (mark greater (past is_white (drop i text))) (λ u. pure c.own)
          by zero h = absurd (omega arith)
          by (suc k) h = rw (sym q ∙ p) refl

      pub adding_ended : b ≡ false → (j : ℕ) → Came text (Ok j) (greater_after (drop i text))
          → EndCame attributes (Ok (record { at = j; count = count; row = row })) (definitions (drop at text))
      adding_ended p j x = rw (finished p) (by (greater_after (drop i text)) x)
        where
          by : (o : Read (Unit {0})) → Came text (Ok j) o → EndCame attributes (Ok (record { at = j; count = count; row = row })) (onward o (λ u. pure c.own))
          by (ok u t) a = (a, c.few, c.names, c.row_of)
          by (stop k t) y = absurd y

      pub adding_open : b ≡ false → (f : Fault) → Came text (Err f) (greater_after (drop i text)) → EndCame attributes (Err f) (definitions (drop at text))
      adding_open p f x = rw (finished p) (came_faulty (EndIs attributes) text (λ u. pure c.own) f (greater_after (drop i text)) x)

      -- ---- one more

      module _ (p : b ≡ true) where
        abbrev more : ℕ → Definition → Reader (List Definition)
        more k y = att_defs any old n k (c.own ++ y ∷ [])

        turned : (k : ℕ) × (c.bound ≡ suc k) × (definitions (drop at text) ≡ onward (att_def any upto_here n (drop i text)) (more k))
        turned = by c.bound c.enough c.reads
          where
            by : (m : ℕ) → length (drop i text) < m → definitions (drop at text) ≡ att_defs any old n m c.own (drop i text)
                → (k : ℕ) × (m ≡ suc k) × (definitions (drop at text) ≡ onward (att_def any upto_here n (drop i text)) (more k))
            by zero h r = absurd (omega arith)
            by (suc k) h r = (k, refl, r ∙ rw (sym q ∙ p) refl)

        came : (r : Result Defined Fault) → DefinitionCame text (names_at text (take count attributes)) r (definition_in (names_at text (take count attributes)) row (drop i text))
            → DefinitionCame text (attribute_names upto_here) r (att_def any upto_here n (drop i text))
        came r x = rw (← definition_same upto_here n row c.row_of any few_names (drop i text), ← c.names) x

        pub adding_failed : (f : Fault) → DefinitionCame text (names_at text (take count attributes)) (Err f) (definition_in (names_at text (take count attributes)) row (drop i text))
            → EndCame attributes (Err f) (definitions (drop at text))
        adding_failed f x =
            rw turned.2 (faulty (DefinitionIs text (attribute_names upto_here)) (EndIs attributes) text (more turned.0) f (att_def any upto_here n (drop i text)) (came (Err f) x))

        module _ (d : Defined) (x : DefinitionCame text (names_at text (take count attributes)) (Ok d) (definition_in (names_at text (take count attributes)) row (drop i text))) where
          -- the definition that was read
          pub record Read_one (y : Definition) : Type 0 where
            pub reads : att_def any upto_here n (drop i text) ≡ ok y (drop d.at text)
            pub inside : d.at ≤ length text
            pub name : name_at text d.place ≡ y.name
            pub number : d.attribute ≡ number_in (attribute_names upto_here) y.name
            pub kind : kind_of d.kind ≡ kind_number y.kind
            pub status : status_of d.status ≡ status_number y.status

          one : (y : Definition) × Read_one y
          one = by (att_def any upto_here n (drop i text)) refl (came (Ok d) x)
            where
              by : (z : Read Definition) → att_def any upto_here n (drop i text) ≡ z → DefinitionCame text (attribute_names upto_here) (Ok d) z → (y : Definition) × Read_one y
              by (ok y s) e (a, f, g, h, k) =
                  (y, record { reads = e ∙ ap (λ t. ok y t) (sym a.rest); inside = a.inside; name = f; number = g; kind = h; status = k })
              by (stop k s) e w = absurd w

          abbrev y : Definition
          y = one.0

          spelled : G.att_def y (drop i text) (drop d.at text) × (new_attribute upto_here n y.name && room_for_attribute upto_here y.name && id_allowed upto_here n y.kind ≡ true)
          spelled = (asked_exact any {n = 0} upto_here n).gives one.1.reads

          new : among y.name (called (defined_for n upto_here)) ≡ false
          new =
              let (u, v) = (and-eq-true_iff (new_attribute upto_here n y.name && room_for_attribute upto_here y.name) (id_allowed upto_here n y.kind)).0 spelled.1 in
              not-true (among y.name (called (defined_for n upto_here))) ((and-eq-true_iff (new_attribute upto_here n y.name) (room_for_attribute upto_here y.name)).0 u).0

          shorter : length (drop d.at text) < length (drop i text)
          shorter = definition_strict any y (drop i text) (drop d.at text) spelled.0

          pub adding_less : length text - d.at < length text - i
          adding_less = let h = shorter in omega (arith, length-drop i text, length-drop d.at text)

          pub adding_low : d.attribute < most_attributes
          adding_low =
              let names : List Name = attribute_names upto_here in
              let e = definition_same upto_here n row c.row_of any few_names (drop i text) ∙ one.1.reads in
              let w = ((definition_exact (new_in names row) (room_in names) (ids_in row) {n = 0}).gives {s = drop i text} e).1 in
              let u = ((and-eq-true_iff (new_in names row y.name && room_in names y.name) (ids_in row y.kind)).0 w).0 in
              let v = ((and-eq-true_iff (new_in names row y.name) (room_in names y.name)).0 u).1 in
              rw one.1.number (ltb-true (number_in names y.name) most_attributes v)

          pub adding_more : (exit : List ℕ) (count' : ℕ) (row' : Row) → row' ≡ with_definition row d.attribute (kind_of d.kind) (status_of d.status)
              → Noted attributes exit count d.attribute d.place count' → Adding at exit count' d.at row'
          adding_more exit count' row' f g =
              let names : List Name = attribute_names upto_here in
              let r = one.1 in
              let (k, m, t) = turned in
              let (u, v, w) = noted_names text attributes exit count d.attribute d.place count' g names y.name c.names adding_fits r.number adding_low c.long c.few r.name in
              let h = shorter in
              let z = c.enough in
              let grown = names_more old n c.own y in
              let apart = subst (λ l. different l ≡ true) grown (names_different (old ++ attlist n (c.own ++ y ∷ []) ∷ [])) in
              let f' : row' ≡ with_definition row (number_in (with_name names y.name) y.name) (kind_number y.kind) (status_number y.status) =
              f
              ∙ ap (λ x. with_definition row x (kind_of d.kind) (status_of d.status)) (r.number ∙ sym (number_same names y.name))
              ∙ ap (λ x. with_definition row (number_in (with_name names y.name) y.name) x (status_of d.status)) r.kind
              ∙ ap (λ x. with_definition row (number_in (with_name names y.name) y.name) (kind_number y.kind) x) r.status in
              record {
                inside = r.inside;
                long = w;
                few = v;
                own = c.own ++ y ∷ [];
                bound = k;
                enough = omega arith;
                reads = t ∙ ap (λ o. onward o (more k)) r.reads;
                names = u ∙ sym grown;
                row_of = rw (grown, for_more old n c.own y)
                    (row_more (with_name names y.name) (defined_for n upto_here) row row' y (row_with names (defined_for n upto_here) row y.name c.row_of new) apart (number_within names y.name) new f');
              }
