-- Along the text before a place, turn by turn, with the row of one element's attributes. Assumes nothing.
use Rattle.std.specs.Prelude.{◌≡◌, refl, ◌⊎◌, Bool, true, false, Result, Ok, Err, List, [], ◌∷◌, ◌++◌, ℕ, suc, ◌+◌, ◌-◌, ◌≤◌, ◌<◌, eqb, length, drop, get_or}
use Rattle.std.specs.Result.{IsOk}
use Rattle.std.proofs.Common.{sym, ap, subst, ◌∙◌, inl, inr, append-nil, arith, length-drop, length-append, drop-drop}
use Rattle.paper.specs.Basics.{most_attributes}
use Rattle.paper.specs.Dtd.Letters.{Name, is_white, begins, past, start_comment, start_element, start_attlist}
use Rattle.paper.specs.Dtd.Declarations.{Definition, Declaration, element, attlist, defined_for, attribute_names}
use Rattle.paper.specs.Dtd.Limits.{definitions_kept, declaration_kept}
use Rattle.paper.specs.Dtd.Grammar.{◌⨾◌}
use Rattle.paper.specs.Dtd.Grammar as G
use Rattle.paper.specs.Dtd.Readers.{Read, ok, bounded, inside}
use Rattle.paper.specs.Dtd.Reading.{turn}
use Rattle.basic_laws.specs.Bools.{clash}
use Rattle.dtd_laws.specs.Unique.{any}
use Rattle.dtd_laws.specs.Exact.{bounded_exact}
use Rattle.dtd_laws.specs.Comments.{Within, inside_exact}
use Rattle.dtd_laws.specs.Kept.{for_append}
use Rattle.dtd_laws.specs.Texts.{Piece, turn_exact}
use Rattle.dtd_words.specs.declared.Fault.{Fault}
use Rattle.dtd_words.specs.Places.{At, begins_at}
use Rattle.dtd_words.specs.Words.{Came}
use Rattle.dtd_names.specs.Named.{name_at, names_at}
use Rattle.dtd_rows.specs.declared.Row.{Row}
use Rattle.dtd_rows.specs.Rows.{no_row, RowOf, row_none}
use Rattle.dtd_before.specs.Ends.{beyond, declaration_end}
use Rattle.dtd_before.specs.Paths.{Path, here, step, turn_less, path_less, declared_to, Reached}

-- The reader has come to a place, and the places are those of the attributes' names up to there.
pub record Ready (text : List ℕ) (upto : ℕ) (attributes : List ℕ) : Type 0 where
  pub reached : Reached text upto
  pub few : length attributes ≤ most_attributes
  pub alike : names_at text attributes ≡ attribute_names (declared_to text upto)

first_turn : {old old' : List Declaration} {s s' : List ℕ} → Path any old s old' s' → length s' < length s
    → (new : List Declaration) × (r : List ℕ) × (turn any old s ≡ ok new r) × Path any (old ++ new) r old' s'
first_turn here h = absurd (omega arith)
first_turn (step {new = new} {r = r} q p) h = (new, r, q, p)

last_turn : {old old' : List Declaration} {s s' : List ℕ} → Path any old s old' s' → length s ≤ length s' → old ≡ old'
last_turn here h = refl
last_turn {old} {old'} {s} (step {new = new} {r = r} q p) h = let i = turn_less any old new s r q in let l = path_less any p in absurd (omega arith)

module _ (text : List ℕ) (upto e : ℕ) where
  abbrev all_done : List Declaration
  all_done = declared_to text upto

  -- s is left, and the row is that of what the element's ATTLISTs before it define
  pub record Scan (s : List ℕ) (row : Row) : Type 0 where
    pub done : List Declaration
    pub left : Path any done s (declared_to text upto) (drop upto text)
    pub row_of : RowOf (attribute_names (declared_to text upto)) (defined_for (name_at text e) done) row

  -- an ATTLIST's name is due
  pub record Due (s : List ℕ) (row : Row) : Type 0 where
    pub done : List Declaration
    pub name : Name
    pub ds : List Definition
    pub r : List ℕ
    pub spelled : (G.S ⨾ G.name name ⨾ G.att_defs ds) s r
    pub keeps : definitions_kept done name [] ds ≡ true
    pub left : Path any (done ++ attlist name ds ∷ []) r (declared_to text upto) (drop upto text)
    pub row_of : RowOf (attribute_names (declared_to text upto)) (defined_for (name_at text e) done) row

  pub scan_begun : (row : Row) → Reached text upto → row ≡ no_row → Scan (drop 0 text) row
  scan_begun row c p = record { done = []; left = c.path; row_of = row_none (attribute_names all_done) row p }

  pub scan_ended : (i : ℕ) (row : Row) → Scan (drop i text) row → upto ≤ i → RowOf (attribute_names (declared_to text upto)) (defined_for (name_at text e) (declared_to text upto)) row
  scan_ended i row c h =
      subst (λ z. RowOf (attribute_names all_done) (defined_for (name_at text e) z) row)
      (last_turn c.left (omega (arith, length-drop i text, length-drop upto text))) c.row_of

  -- what is left stands from j on
  moved : (j : ℕ) (s : List ℕ) (row : Row) → At text j s → Scan s row → Scan (drop j text) row
  moved j s row a c = rw a.rest c

  nearer : (i j : ℕ) (s : List ℕ) → At text j s → length s < length (drop i text) → length text - j < length text - i
  nearer i j s a h = let l = ap length a.rest in omega (arith, length-drop i text, length-drop j text)

  module _ (i : ℕ) (row : Row) (c : Scan (drop i text) row) (h : i < upto) (w : Bool) (q : w ≡ is_white (get_or text i 0)) (z : Reached text upto) where
    inside_i : i < length text
    inside_i = let k = z.inside in omega arith

    front : w ≡ begins is_white (drop i text)
    front = begins_at is_white text i w inside_i q

    abbrev Turned : Type 0
    Turned = (new : List Declaration) × (r : List ℕ) × (turn any c.done (drop i text) ≡ ok new r) × Path any (c.done ++ new) r all_done (drop upto text)

    turned : Turned
    turned = let k = z.inside in first_turn c.left (omega (arith, length-drop i text, length-drop upto text))

    -- ---- white space

    white : w ≡ true → Scan (past is_white (drop i text)) row × (length (past is_white (drop i text)) < length (drop i text))
    white p = by turned.0 turned.1 turned.2 turned.3
      where
        by : (new : List Declaration) (r : List ℕ) → turn any c.done (drop i text) ≡ ok new r → Path any (c.done ++ new) r all_done (drop upto text)
            → Scan (past is_white (drop i text)) row × (length (past is_white (drop i text)) < length (drop i text))
        by new r e f =
            let g : turn any c.done (drop i text) ≡ ok [] (past is_white (drop i text)) = rw (sym front ∙ p) refl in
            let x : new ≡ [] = cc in
            let y : r ≡ past is_white (drop i text) = cc in (
              record { done = c.done; left = rw (x, append-nil c.done, y) at f; row_of = c.row_of },
              rw (← y) (turn_less any c.done new (drop i text) r e),
            )

    pub white_scan : (j : ℕ) → w ≡ true → At text j (past is_white (drop i text)) → Scan (drop j text) row
    white_scan j p a = moved j (past is_white (drop i text)) row a (white p).0

    pub white_less : (j : ℕ) → w ≡ true → At text j (past is_white (drop i text)) → length text - j < length text - i
    white_less j p a = nearer i j (past is_white (drop i text)) a (white p).1

    -- ---- a comment or a declaration

    abbrev Note : Type 0
    Note = (t : List ℕ) × (r : List ℕ) × (drop i text ≡ start_comment ++ t) × Within tt t r × Scan r row × (length r < length (drop i text))

    abbrev Declares : Type 0
    Declares =
        (d : Declaration)
        × (r : List ℕ)
        × G.declaration d (drop i text) r
        × (declaration_kept any c.done d ≡ true)
        × Path any (c.done ++ d ∷ []) r all_done (drop upto text)
        × (length r < length (drop i text))

    sorted : w ≡ false → Note ⊎ Declares
    sorted p = by turned.0 turned.1 turned.2 turned.3 ((turn_exact any c.done {n = 0}).gives turned.2)
      where
        by : (new : List Declaration) (r : List ℕ) → turn any c.done (drop i text) ≡ ok new r → Path any (c.done ++ new) r all_done (drop upto text)
            → Piece any c.done new (drop i text) r → Note ⊎ Declares
        by new r e f (inl (x, (g, k))) = clash g (sym front ∙ p)
        by new r e f (inr (inl (x, (t, a, b)))) =
            inl (t, r, a, b, record { done = c.done; left = rw (← x, append-nil c.done) at f; row_of = c.row_of }, turn_less any c.done new (drop i text) r e)
        by new r e f (inr (inr (d, x, a, k))) = inr (d, r, a, k, rw (← x) at f, turn_less any c.done new (drop i text) r e)

    -- bytes further on
    further : (k : ℕ) (l : List ℕ) → drop i text ≡ l → drop (i + k) text ≡ drop k l
    further k l p = sym (drop-drop k i text) ∙ ap (drop k) p

    long : (l t : List ℕ) → drop i text ≡ l ++ t → i + length l ≤ length text
    long l t p = let k = inside_i in let y = ap length p ∙ length-append l t in omega (arith, length-drop i text)

    pub front_inside : w ≡ false → i + 4 ≤ length text
    front_inside p = by (sorted p)
      where
        by : Note ⊎ Declares → i + 4 ≤ length text
        by (inl (t, r, a, b, k, l)) = long start_comment t a
        by (inr (element n x, r, (t, a, b), k, f, l)) = let y = long start_element t a in omega arith
        by (inr (attlist n x, r, (t, a, b), k, f, l)) = let y = long start_attlist t a in omega arith

    -- b: whether a hyphen stands behind `<!`
    module _ (b : Bool) (o : b ≡ begins (eqb 45) (drop (i + 2) text)) (p : w ≡ false) where
      note : b ≡ true → Note
      note y = by (sorted p)
        where
          by : Note ⊎ Declares → Note
          by (inl x) = x
          by (inr (element n x, r, (t, a, u), k, f, l)) = clash (sym o ∙ y) (ap (begins (eqb 45)) (further 2 (start_element ++ t) a))
          by (inr (attlist n x, r, (t, a, u), k, f, l)) = clash (sym o ∙ y) (ap (begins (eqb 45)) (further 2 (start_attlist ++ t) a))

      module _ (y : b ≡ true) (s : Result ℕ Fault) (x : Came text s (bounded inside (drop (i + 4) text))) where
        note_read : Came text s (ok (tt {0}) (note y).1)
        note_read =
            let (t, r, a, u, v, l) = note y in
            let f = further 4 (start_comment ++ t) a in
            let g = (bounded_exact {n = length t} inside (λ n. inside_exact (suc n))).takes {a = tt} {s = t} {r = r} (omega arith) u in
            came (bounded inside (drop (i + 4) text)) (ap (bounded inside) f ∙ g) x
          where
            came : (z : Read (Unit {0})) → z ≡ ok tt (note y).1 → Came text s z → Came text s (ok (tt {0}) (note y).1)
            came z g x = rw g at x

        pub note_ok : IsOk s
        note_ok = by s note_read
          where
            by : (s : Result ℕ Fault) → Came text s (ok (tt {0}) (note y).1) → IsOk s
            by (Ok j) x = refl
            by (Err f) x = absurd x

        module _ (j : ℕ) (k : s ≡ Ok j) where
          behind_note : At text j (note y).1
          behind_note = rw k at note_read

          pub note_inside : j ≤ length text
          note_inside = behind_note.inside

          pub note_scan : Scan (drop j text) row
          note_scan = let (t, r, a, u, v, l) = note y in moved j r row behind_note v

          pub note_less : length text - j < length text - i
          note_less = let (t, r, a, u, v, l) = note y in nearer i j r behind_note l

      -- x: whether an A stands there
      module _ (y : b ≡ false) where
        declares : Declares
        declares = by (sorted p)
          where
            by : Note ⊎ Declares → Declares
            by (inl (t, r, a, u, k, l)) = clash (ap (begins (eqb 45)) (further 2 (start_comment ++ t) a)) (sym o ∙ y)
            by (inr x) = x

        pub declared_less : (j : ℕ) → At text j (beyond (drop i text)) → length text - j < length text - i
        declared_less j a =
            let (d, r, u, k, f, l) = declares in
            nearer i j (beyond (drop i text)) a (rw (declaration_end d (drop i text) r u) l)

        module _ (x : Bool) (v : x ≡ begins (eqb 65) (drop (i + 2) text)) where
          pub element_scan : (j : ℕ) → x ≡ false → At text j (beyond (drop i text)) → Scan (drop j text) row
          element_scan j m a = by declares.0 declares.1 declares.2 declares.4
            where
              by : (d : Declaration) (r : List ℕ) → G.declaration d (drop i text) r → Path any (c.done ++ d ∷ []) r all_done (drop upto text) → Scan (drop j text) row
              by (attlist n ds) r (t, u, k) f = clash (ap (begins (eqb 65)) (further 2 (start_attlist ++ t) u)) (sym v ∙ m)
              by (element n k) r u f =
                  moved j (beyond (drop i text)) row a (rw (declaration_end (element n k) (drop i text) r u) (record {
                    done = c.done ++ element n k ∷ [];
                    left = f;
                    row_of = rw (for_append (name_at text e) c.done (element n k ∷ []), append-nil (defined_for (name_at text e) c.done)) c.row_of;
                  }))

          module _ (m : x ≡ true) where
            abbrev Attlist : Type 0
            Attlist = (i + 9 ≤ length text) × Due (drop (i + 9) text) row × (beyond (drop (i + 9) text) ≡ beyond (drop i text))

            attlist_here : Attlist
            attlist_here = by declares.0 declares.1 declares.2 declares.3 declares.4
              where
                by : (d : Declaration) (r : List ℕ) → G.declaration d (drop i text) r → declaration_kept any c.done d ≡ true
                    → Path any (c.done ++ d ∷ []) r all_done (drop upto text) → Attlist
                by (element n k) r (t, u, a) g f = clash (sym v ∙ m) (ap (begins (eqb 65)) (further 2 (start_element ++ t) u))
                by (attlist n ds) r (t, u, a) g f =
                    let d : drop (i + 9) text ≡ t = further 9 (start_attlist ++ t) u in (
                      long start_attlist t u,
                      record { done = c.done; name = n; ds = ds; r = r; spelled = rw d a; keeps = g; left = f; row_of = c.row_of },
                      ap beyond d ∙ sym (ap beyond u),
                    )

            pub attlist_inside : i + 9 ≤ length text
            attlist_inside = attlist_here.0

            pub attlist_due : Due (drop (i + 9) text) row
            attlist_due = attlist_here.1

            pub attlist_scan : (j : ℕ) (row' : Row) → Scan (beyond (drop (i + 9) text)) row' → At text j (beyond (drop i text)) → Scan (drop j text) row'
            attlist_scan j row' k a = moved j (beyond (drop i text)) row' a (rw attlist_here.2 at k)
