-- From where the declarations of a text stand to its schema file and its names. Assumes nothing.
use Rattle.std.specs.Prelude.{◌≡◌, refl, List, [], ◌∷◌, ℕ, suc, ◌≤◌, ◌<◌, length, take, drop, get_or}
use Rattle.std.proofs.Common.{sym, ap, ◌∙◌, arith, length-drop, drop-cons, get_or-take, length-take-le}
use Rattle.std.proofs.lemmas.List.{length-map}
use Rattle.paper.specs.SchemaWritten.{most_schema_file}
use Rattle.paper.specs.Dtd.Letters.{Name}
use Rattle.paper.specs.Dtd.Declarations.{Declaration, element, attlist, element_names, defined_for, attribute_names}
use Rattle.dtd_laws.specs.Unique.{any}
use Rattle.dtd_names.specs.Named.{name_at, names_at}
use Rattle.dtd_elements.specs.Stored.{Stored}
use Rattle.dtd_rows.specs.Rows.{RowOf}
use Rattle.dtd_before.specs.Paths.{declared_to, declared_to_lem, reached}
use Rattle.dtd_texts.specs.Turns.{Lists, Holding}
use Rattle.dtd_heads.specs.Heads.{row_at, most_numbers}
use Rattle.dtd_file.specs.Filed.{Stand, Filed}
use Rattle.dtd_schema.specs.Rows.{Asked, Rowed}

-- the declarations ds of a text that was read to its end
pub record Held (text es cs qs ns hs ts : List ℕ) (count defined many : ℕ) (ds : List Declaration) : Type 0 where
  pub long : Lists es cs qs ns hs ts
  pub holding : Holding any text ds (length text) es cs qs ns hs ts count defined many

pub record Holds (text es cs qs ns hs ts : List ℕ) (count defined many : ℕ) : Type 0 where
  pub ds : List Declaration
  pub held : Held text es cs qs ns hs ts count defined many ds

-- ---- the parts of a list

front : (l : List ℕ) (j p : ℕ) (ps : List ℕ) → drop j l ≡ p ∷ ps → (j < length l) × (get_or l j 0 ≡ p) × (drop (suc j) l ≡ ps)
front l j p ps e =
    let n : length (drop j l) ≡ suc (length ps) = ap length e in
    let h : j < length l = omega (arith, length-drop j l) in
    let c = sym (drop-cons l j 0 h) ∙ e in
    let a : get_or l j 0 ≡ p = cc in
    let b : drop (suc j) l ≡ ps = cc in
    (h, a, b)

module _ (text es cs qs ns hs ts : List ℕ) (count defined many : ℕ) (ds : List Declaration) (h : Held text es cs qs ns hs ts count defined many ds) where
  declared_all : declared_to text (length text) ≡ ds
  declared_all = declared_to_lem any text (length text) ds (omega arith) h.holding.path

  pub asked : (rows : List ℕ) → most_numbers ≤ length rows → Asked text (take count es) (take defined ns) hs many ts rows
  asked rows l =
      let o = h.holding in
      let f = o.few in
      let g = o.few_attributes in
      let e = h.long.elements_long in
      let a = h.long.attributes_long in
      record {
        ready = record {
          reached = reached any text (length text) ds (omega arith) o.path;
          few = omega (arith, length-take-le defined ns (omega arith));
          alike = o.listed ∙ ap attribute_names (sym declared_all);
        };
        few = omega (arith, length-take-le count es (omega arith));
        long = l;
        kept = rw declared_all o.table;
      }

  -- with the rows of the text
  module _ (rows : List ℕ) (r : Rowed text (take count es) rows (length (take count es))) where
    row : (j : ℕ) → j < length (take count es) → (n : Name) → name_at text (get_or (take count es) j 0) ≡ n → RowOf (attribute_names ds) (defined_for n ds) (row_at rows j)
    row j k n e = rw (declared_all, e) at (r j k)

    stand : (l : List Declaration) (j : ℕ) → Stored text l (drop j (take count cs)) (drop j (take count qs)) → element_names l ≡ names_at text (drop j (take count es)) → Stand text cs qs rows ds l j
    stand [] j s e = tt
    stand (attlist n l ∷ ds) j s e = stand ds j s e
    stand (element n c ∷ l) j s e = by (drop j (take count cs)) refl (drop j (take count qs)) refl (drop j (take count es)) refl s e
        (λ p q. stand l (suc j) p q)
      where
        long_es : length (take count es) ≡ count
        long_es = let a = h.long.elements_long in let f = h.holding.few in length-take-le count es (omega arith)

        by : (ps : List ℕ) → drop j (take count cs) ≡ ps → (rs : List ℕ) → drop j (take count qs) ≡ rs → (us : List ℕ) → drop j (take count es) ≡ us
            → Stored text (element n c ∷ l) ps rs → n ∷ element_names l ≡ names_at text us
            → (Stored text l (drop (suc j) (take count cs)) (drop (suc j) (take count qs)) → element_names l ≡ names_at text (drop (suc j) (take count es)) → Stand text cs qs rows ds l (suc j))
            → Stand text cs qs rows ds (element n c ∷ l) j
        by [] e1 rs e2 us e3 s e f = absurd s
        by (p ∷ ps) e1 [] e2 us e3 s e f = absurd s
        by (p ∷ ps) e1 (q ∷ rs) e2 [] e3 s e f = let z : ◌≡◌ {A = ℕ} (suc (length (element_names l))) 0 = ap length e in absurd (omega arith)
        by (p ∷ ps) e1 (q ∷ rs) e2 (u ∷ us) e3 (x, s) e f =
            let (k1, a1, b1) = front (take count cs) j p ps e1 in
            let (k2, a2, b2) = front (take count qs) j q rs e2 in
            let (k3, a3, b3) = front (take count es) j u us e3 in
            let m : j < count = omega (arith, long_es) in
            let g1 : get_or cs j 0 ≡ p = sym (get_or-take count cs j 0 m) ∙ a1 in
            let g2 : get_or qs j 0 ≡ q = sym (get_or-take count qs j 0 m) ∙ a2 in
            let i : n ≡ name_at text u = cc in
            let t : element_names l ≡ names_at text us = cc in (
              record { spelled = rw (g1, g2) x.spelled; inside = rw g2 x.inside; fits = x.fits; row = row j k3 n (rw a3 (sym i)) },
              f (rw (b1, b2) s) (t ∙ ap (names_at text) (sym b3)),
            )

    pub filed : (out : List ℕ) → most_numbers ≤ length rows → length out ≡ most_schema_file → Filed text (take count es) cs qs rows out ds
    filed out l o =
        let f = h.holding.few in
        let e = h.long.elements_long in
        let c = h.long.contents_long in
        let q = h.long.ends_long in
        let a = h.long.attributes_long in
        let g = h.holding.few_attributes in
        record {
          few = omega (arith, length-take-le count es (omega arith));
          some_contents = omega (arith, length-take-le count es (omega arith));
          some_ends = omega (arith, length-take-le count es (omega arith));
          some_rows = l;
          long = o;
          names = h.holding.names;
          few_attributes = rw (← h.holding.listed, length-map (take defined ns) (name_at text) ∙ length-take-le defined ns (omega arith)) g;
          stand = stand ds 0 h.holding.stored (sym h.holding.names);
        }
