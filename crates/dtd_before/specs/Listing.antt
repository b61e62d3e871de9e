-- Along the definitions of the element's ATTLIST: turns of the loop. Assumes nothing.
use Rattle.std.specs.Prelude.{◌≡◌, refl, Bool, true, false, ◌&&◌, Result, Ok, Err, List, [], ◌∷◌, ◌++◌, ℕ, ◌+◌, ◌-◌, ◌≤◌, ◌<◌, eqb, length, drop}
use Rattle.std.specs.Result.{IsOk}
use Rattle.std.proofs.Common.{sym, ap, subst, ◌∙◌, append_assoc, append-nil, arith, ltb-true, length-drop}
use Rattle.std.proofs.Math.Bool.{and-eq-true_iff}
use Rattle.std.proofs.lemmas.Bool.{not-true}
use Rattle.std.proofs.lemmas.List.{length-map}
use Rattle.paper.specs.Basics.{most_attributes}
use Rattle.paper.specs.Codes.{kind_of, status_of}
use Rattle.paper.specs.Dtd.Letters.{Name, is_white, is_more, begins, past, among, greater}
use Rattle.paper.specs.Dtd.Declarations.{Kind, Status, Definition, Declaration, attlist, defined_for, attribute_names}
use Rattle.paper.specs.Dtd.Numbering.{number_in, kind_number, status_number}
use Rattle.paper.specs.Dtd.Limits.{definition_kept, definitions_kept}
use Rattle.paper.specs.Dtd.Grammar as G
use Rattle.paper.specs.Dtd.Readers.{Read, stop, ok, kind, status}
use Rattle.paper.specs.Dtd.Reading.{new_attribute, room_for_attribute, id_allowed}
use Rattle.basic_laws.specs.Bools.{clash}
use Rattle.dtd_laws.specs.Unique.{any}
use Rattle.dtd_laws.specs.Leaves.{name_first, not_first}
use Rattle.dtd_laws.specs.Words.{kind_exact, status_exact}
use Rattle.dtd_laws.specs.Contents.{past_white}
use Rattle.dtd_laws.specs.Attributes.{white_more, definition_strict}
use Rattle.dtd_laws.specs.Kept.{words}
use Rattle.dtd_laws.specs.Names.{own_for, number_below, word_named, names_different}
use Rattle.dtd_words.specs.declared.Fault.{Fault}
use Rattle.dtd_words.specs.Places.{At}
use Rattle.dtd_names.specs.Named.{name_at, names_at}
use Rattle.dtd_kinds.specs.declared.Kinded.{Kinded}
use Rattle.dtd_kinds.specs.declared.Stated.{Stated}
use Rattle.dtd_kinds.specs.Kinds.{KindCame, StatusCame}
use Rattle.dtd_rows.specs.declared.Row.{Row}
use Rattle.dtd_rows.specs.Rows.{with_definition, called}
use Rattle.dtd_rows.specs.More.{row_more}
use Rattle.dtd_before.specs.Ends.{beyond, definitions_end, definition_clear}
use Rattle.dtd_before.specs.Paths.{Path, path_more, declared_to}
use Rattle.dtd_before.specs.Scans.{Ready, Scan}
use Rattle.dtd_before.specs.Defining.{named, word_here, Mid}

-- what the readers of a kind and of a status came to, where they read one
kind_is : (text t r : List ℕ) (k : Kinded) (y : Kind) → kind t ≡ ok y r → KindCame text (Ok k) (kind t) → At text k.at r × (kind_of k.kind ≡ kind_number y)
kind_is text t r k y p c = rw p at c

status_is : (text t r : List ℕ) (k : Stated) (y : Status) → status t ≡ ok y r → StatusCame text (Ok k) (status t) → At text k.at r × (status_of k.status ≡ status_number y)
status_is text t r k y p c = rw p at c

kind_taken : (text t r : List ℕ) (k : Result Kinded Fault) (y : Kind) → kind t ≡ ok y r → KindCame text k (kind t) → IsOk k
kind_taken text t r (Ok k) y p c = refl
kind_taken text t r (Err f) y p c = absurd (rw p at c)

status_taken : (text t r : List ℕ) (k : Result Stated Fault) (y : Status) → status t ≡ ok y r → StatusCame text k (status t) → IsOk k
status_taken text t r (Ok k) y p c = refl
status_taken text t r (Err f) y p c = absurd (rw p at c)

pub kind_within : (text : List ℕ) (k : Kinded) (kr : Result Kinded Fault) (o : Read Kind) → kr ≡ Ok k → KindCame text kr o → k.at ≤ length text
kind_within text k kr o e c = by o (rw e at c)
  where
    by : (o : Read Kind) → KindCame text (Ok k) o → k.at ≤ length text
    by (ok y s) c = c.0.inside
    by (stop n s) c = absurd c

module _ (text : List ℕ) (upto e : ℕ) where
  abbrev names : List Name
  names = attribute_names (declared_to text upto)

  abbrev n : Name
  n = name_at text e

  -- the definitions from `at` on go on at i
  pub record Listing (at i : ℕ) (row : Row) : Type 0 where
    pub inside : i ≤ length text
    pub mid : Mid text upto e (drop i text) row
    pub end_same : beyond (drop i text) ≡ beyond (drop at text)

  pub listing_begun : (at : ℕ) (row : Row) → at ≤ length text → Mid text upto e (drop at text) row → Listing at at row
  listing_begun at row h c = record { inside = h; mid = c; end_same = refl }

  module _ (at i : ℕ) (row : Row) (c : Listing at i row) (a : ℕ) (x : At text a (past is_white (drop i text))) (g : Bool) (q : g ≡ begins (eqb greater) (drop a text)) where
    abbrev m : Mid text upto e (drop i text) row
    m = c.mid

    front : (t : List ℕ) → G.S? (drop i text) t → g ≡ begins (eqb greater) t
    front t s = q ∙ ap (begins (eqb greater)) (x.rest ∙ past_white s)

    -- ---- no definition more

    pub listing_ended : g ≡ true → Scan text upto e (beyond (drop at text)) row
    listing_ended p = by m.ds m.spelled m.left
      where
        by : (ds : List Definition) → G.att_defs ds (drop i text) m.r
            → Path any (m.done ++ attlist n (m.own ++ ds) ∷ []) m.r (declared_to text upto) (drop upto text) → Scan text upto e (beyond (drop at text)) row
        by (d ∷ ds) (t, (t1, s, (t2, b, z)), f) l = clash (sym (front t1 s.1) ∙ p) (name_first (eqb greater) (not_first greater refl) d.name t1 t2 b)
        by [] s l =
            let y : beyond (drop at text) ≡ m.r = sym c.end_same ∙ definitions_end [] (drop i text) m.r s in
            rw y (record {
              done = m.done ++ attlist n m.own ∷ [];
              left = rw (append-nil m.own) at l;
              row_of = rw (own_for m.done n m.own) m.row_of;
            })

    -- ---- one more

    -- its name is one of the text's
    listed_below : (d : Definition) (ds : List Definition)
        → Path any (m.done ++ attlist n (m.own ++ d ∷ ds) ∷ []) m.r (declared_to text upto) (drop upto text) → number_in names d.name < length names
    listed_below d ds l =
        let (more, y) = path_more any l in
        let w = subst (λ z. among d.name (words z) ≡ true) y (word_here m.done more n m.own ds d) in
        ltb-true (number_in names d.name) (length names) (number_below names d.name (word_named d.name (declared_to text upto) w))

    -- what is read of it
    pub record Defined (d : Definition) (ds : List Definition) (k : Kinded) (s : Stated) : Type 0 where
      pub inside : s.at ≤ length text
      pub name : name_at text a ≡ d.name
      pub kind_is : kind_of k.kind ≡ kind_number d.kind
      pub status_is : status_of s.status ≡ status_number d.status
      pub spelled : G.att_defs ds (drop s.at text) m.r
      pub clear : beyond (drop s.at text) ≡ beyond (drop i text)
      pub less : length (drop s.at text) < length (drop i text)

    defined_here : (d : Definition) (ds : List Definition) (k : Kinded) (s : Stated) → G.att_defs (d ∷ ds) (drop i text) m.r
        → KindCame text (Ok k) (kind (past is_white (past is_more (drop a text)))) → StatusCame text (Ok s) (status (past is_white (drop k.at text)))
        → Defined d ds k s
    defined_here d ds k s (t, (t1, b, (t2, f, (t3, h, (t4, j, (t5, u, v))))), r) kc sc =
        let (n1, n2) = named d.name t1 t2 f in
        let w : drop a text ≡ t1 = x.rest ∙ past_white b.1 in
        let y : past is_white (past is_more (drop a text)) ≡ t3 = rw (w, n2) (past_white h.1) in
        let (k1, k2) = kind_is text t3 t4 k d.kind ((kind_exact {n = length t3}).takes (omega arith) (j, white_more t4 u.0)) (rw y at kc) in
        let z : past is_white (drop k.at text) ≡ t5 = rw k1.rest (past_white u.1) in
        let (s1, s2) = status_is text t5 t s d.status ((status_exact {n = length t5}).takes (omega arith) v) (rw z at sc) in
        let whole : G.att_def d (drop i text) t = (t1, b, (t2, f, (t3, h, (t4, j, (t5, u, v))))) in
        record {
          inside = s1.inside;
          name = rw w n1;
          kind_is = k2;
          status_is = s2;
          spelled = rw s1.rest r;
          clear = rw s1.rest (sym (definition_clear d (drop i text) t whole));
          less = rw s1.rest (definition_strict any d (drop i text) t whole);
        }

    module _ (p : g ≡ false) where
      pub number_small : (attributes : List ℕ) (z : ℕ) → Ready text upto attributes
          → z ≡ number_in (names_at text attributes) (name_at text a) → z < most_attributes
      number_small attributes z o f = by m.ds m.spelled m.left
        where
          long : length names ≡ length attributes
          long = ap length (sym o.alike) ∙ length-map attributes (name_at text)

          by : (ds : List Definition) → G.att_defs ds (drop i text) m.r
              → Path any (m.done ++ attlist n (m.own ++ ds) ∷ []) m.r (declared_to text upto) (drop upto text) → z < most_attributes
          by [] (t, s, b) l = clash (ap (begins (eqb greater)) b) (sym (front t s) ∙ p)
          by (d ∷ ds) (t, (t1, s, (t2, b, y)), r) l =
              let h = listed_below d ds l in
              let w = o.few in
              let v : z ≡ number_in names d.name = f ∙ rw (o.alike, x.rest, past_white s.1, (named d.name t1 t2 b).0) refl in
              omega (arith, long)

      pub kind_ok : (r : Result Kinded Fault) → KindCame text r (kind (past is_white (past is_more (drop a text)))) → IsOk r
      kind_ok r kc = by m.ds m.spelled
        where
          by : (ds : List Definition) → G.att_defs ds (drop i text) m.r → IsOk r
          by [] (t, y, b) = clash (ap (begins (eqb greater)) b) (sym (front t y) ∙ p)
          by (d ∷ ds) ((t, (t1, b, (t2, f, (t3, h, (t4, j, (t5, u, v))))), z)) =
              let (n1, n2) = named d.name t1 t2 f in
              let w : drop a text ≡ t1 = x.rest ∙ past_white b.1 in
              let y : past is_white (past is_more (drop a text)) ≡ t3 = rw (w, n2) (past_white h.1) in
              kind_taken text t3 t4 r d.kind ((kind_exact {n = length t3}).takes (omega arith) (j, white_more t4 u.0)) (rw y at kc)

      pub status_ok : (k : Kinded) (kr : Result Kinded Fault) → kr ≡ Ok k → KindCame text kr (kind (past is_white (past is_more (drop a text))))
          → (r : Result Stated Fault) → StatusCame text r (status (past is_white (drop k.at text))) → IsOk r
      status_ok k kr e kc' r sc = by m.ds m.spelled
        where
          kc : KindCame text (Ok k) (kind (past is_white (past is_more (drop a text))))
          kc = rw e at kc'

          by : (ds : List Definition) → G.att_defs ds (drop i text) m.r → IsOk r
          by [] (t, y, b) = clash (ap (begins (eqb greater)) b) (sym (front t y) ∙ p)
          by (d ∷ ds) ((t, (t1, b, (t2, f, (t3, h, (t4, j, (t5, u, v))))), z)) =
              let (n1, n2) = named d.name t1 t2 f in
              let w : drop a text ≡ t1 = x.rest ∙ past_white b.1 in
              let y : past is_white (past is_more (drop a text)) ≡ t3 = rw (w, n2) (past_white h.1) in
              let (k1, k2) = kind_is text t3 t4 k d.kind ((kind_exact {n = length t3}).takes (omega arith) (j, white_more t4 u.0)) (rw y at kc) in
              let q : past is_white (drop k.at text) ≡ t5 = rw k1.rest (past_white u.1) in
              status_taken text t5 t r d.status ((status_exact {n = length t5}).takes (omega arith) v) (rw q at sc)

      module _ (k : Kinded) (s : Stated) (kr : Result Kinded Fault) (ke : kr ≡ Ok k) (kc' : KindCame text kr (kind (past is_white (past is_more (drop a text)))))
          (sr : Result Stated Fault) (se : sr ≡ Ok s) (sc' : StatusCame text sr (status (past is_white (drop k.at text)))) where
        kc : KindCame text (Ok k) (kind (past is_white (past is_more (drop a text))))
        kc = rw ke at kc'

        sc : StatusCame text (Ok s) (status (past is_white (drop k.at text)))
        sc = rw se at sc'

        pub listing_less : length text - s.at < length text - i
        listing_less = by m.ds m.spelled
          where
            by : (ds : List Definition) → G.att_defs ds (drop i text) m.r → length text - s.at < length text - i
            by [] (t, y, b) = clash (ap (begins (eqb greater)) b) (sym (front t y) ∙ p)
            by (d ∷ ds) y = let w = (defined_here d ds k s y kc sc).less in omega (arith, length-drop i text, length-drop s.at text)

        pub listing_more : (attributes : List ℕ) (z : ℕ) (row' : Row) → Ready text upto attributes
            → z ≡ number_in (names_at text attributes) (name_at text a) → row' ≡ with_definition row z (kind_of k.kind) (status_of s.status) → Listing at s.at row'
        listing_more attributes z row' o f v = by m.ds m.spelled m.keeps m.left
          where
            by : (ds : List Definition) → G.att_defs ds (drop i text) m.r → definitions_kept m.done n m.own ds ≡ true
                → Path any (m.done ++ attlist n (m.own ++ ds) ∷ []) m.r (declared_to text upto) (drop upto text) → Listing at s.at row'
            by [] (t, y, b) w l = clash (ap (begins (eqb greater)) b) (sym (front t y) ∙ p)
            by (d ∷ ds) y w l =
                let u = defined_here d ds k s y kc sc in
                let before : List Declaration = m.done ++ attlist n m.own ∷ [] in
                let (w1, w2) = (and-eq-true_iff (definition_kept before n d) (definitions_kept m.done n (m.own ++ d ∷ []) ds)).0 w in
                let (w3, w4) = (and-eq-true_iff (new_attribute before n d.name && room_for_attribute before d.name) (id_allowed before n d.kind)).0 w1 in
                let w5 = ((and-eq-true_iff (new_attribute before n d.name) (room_for_attribute before d.name)).0 w3).0 in
                let new = subst (λ z. among d.name (called z) ≡ false) (own_for m.done n m.own) (not-true (among d.name (called (defined_for n before))) w5) in
                let v' : row' ≡ with_definition row (number_in names d.name) (kind_number d.kind) (status_number d.status) =
                v ∙ rw (f, o.alike, u.name, u.kind_is, u.status_is) refl in
                record {
                  inside = u.inside;
                  mid = record {
                    done = m.done;
                    own = m.own ++ d ∷ [];
                    ds = ds;
                    r = m.r;
                    spelled = u.spelled;
                    keeps = w2;
                    left = rw (append_assoc m.own (d ∷ []) ds) l;
                    row_of = rw (append_assoc (defined_for n m.done) m.own (d ∷ [])) at
                        (row_more names (defined_for n m.done ++ m.own) row row' d m.row_of (names_different (declared_to text upto)) (listed_below d ds l) new v');
                  };
                  end_same = u.clear ∙ c.end_same;
                }
