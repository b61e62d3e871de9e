-- Along the definitions of an ATTLIST that was read before, with the row of its element's attributes. Assumes nothing.
use Rattle.std.specs.Prelude.{◌≡◌, refl, Bool, true, false, ◌||◌, List, [], ◌∷◌, ◌++◌, ℕ, ◌+◌, ◌-◌, drop}
use Rattle.std.proofs.Common.{sym, ap, ◌∙◌, append-nil}
use Rattle.std.proofs.Math.Bool.{or-true, and-eq-true_iff}
use Rattle.std.proofs.lemmas.List.{map-append}
use Rattle.paper.specs.Basics.{all}
use Rattle.paper.specs.Dtd.Letters.{Name, is_white, is_more, is_first, begins, run, past, same, among}
use Rattle.paper.specs.Dtd.Declarations.{Definition, Declaration, attlist, defined_for, attribute_names}
use Rattle.paper.specs.Dtd.Limits.{definitions_kept}
use Rattle.paper.specs.Dtd.Grammar as G
use Rattle.basic_laws.specs.Bools.{clash}
use Rattle.dtd_laws.specs.Unique.{any}
use Rattle.dtd_laws.specs.Leaves.{past_run}
use Rattle.dtd_laws.specs.Contents.{past_white}
use Rattle.dtd_laws.specs.Kept.{words, words_append, for_append, same_true}
use Rattle.dtd_laws.specs.Names.{same_sym, among_append, among_here}
use Rattle.dtd_words.specs.Places.{At}
use Rattle.dtd_names.specs.Named.{name_at}
use Rattle.dtd_rows.specs.declared.Row.{Row}
use Rattle.dtd_rows.specs.Rows.{called, RowOf}
use Rattle.dtd_before.specs.Ends.{beyond, definitions_end, white_clear, name_clear}
use Rattle.dtd_before.specs.Paths.{Path, declared_to}
use Rattle.dtd_before.specs.Scans.{Scan, Due}

-- a name that is spelled
pub named : (n : Name) (s r : List ℕ) → G.name n s r → (run is_more s ≡ n) × (past is_more s ≡ r)
named n s r (p, q, x) = past_run is_more n r (p, ((and-eq-true_iff (begins is_first n) (all is_more n)).0 q).1, x)

-- a definition that is declared has one of the text's names
pub word_here : (done more : List Declaration) (n : Name) (own ds : List Definition) (d : Definition)
    → among d.name (words ((done ++ attlist n (own ++ d ∷ ds) ∷ []) ++ more)) ≡ true
word_here done more n own ds d =
    ap (among d.name) (words_append (done ++ attlist n (own ++ d ∷ ds) ∷ []) more)
    ∙ among_append d.name (words (done ++ attlist n (own ++ d ∷ ds) ∷ [])) (words more)
    ∙ or_left (among d.name (words (done ++ attlist n (own ++ d ∷ ds) ∷ []))) (among d.name (words more)) in_front
  where
    or_left : (x y : Bool) → x ≡ true → (x || y) ≡ true
    or_left true y p = refl
    or_left false y p = clash p refl

    in_list : among d.name (called ((own ++ d ∷ ds) ++ [])) ≡ true
    in_list =
        ap (λ l. among d.name (called l)) (append-nil (own ++ d ∷ ds))
        ∙ ap (among d.name) (map-append (λ (d : Definition). d.name) own (d ∷ ds))
        ∙ among_here d.name (called own) (called ds)

    in_front : among d.name (words (done ++ attlist n (own ++ d ∷ ds) ∷ [])) ≡ true
    in_front =
        ap (among d.name) (words_append done (attlist n (own ++ d ∷ ds) ∷ []))
        ∙ among_append d.name (words done) (words (attlist n (own ++ d ∷ ds) ∷ []))
        ∙ rw in_list (or-true (among d.name (words done)))

module _ (text : List ℕ) (upto e : ℕ) where
  abbrev names : List Name
  names = attribute_names (declared_to text upto)

  abbrev n : Name
  n = name_at text e

  -- in the element's ATTLIST: own are its definitions up to here, ds those that follow
  pub record Mid (s : List ℕ) (row : Row) : Type 0 where
    pub done : List Declaration
    pub own : List Definition
    pub ds : List Definition
    pub r : List ℕ
    pub spelled : G.att_defs ds s r
    pub keeps : definitions_kept done (name_at text e) own ds ≡ true
    pub left : Path any (done ++ attlist (name_at text e) (own ++ ds) ∷ []) r (declared_to text upto) (drop upto text)
    pub row_of : RowOf (attribute_names (declared_to text upto)) (defined_for (name_at text e) done ++ own) row

  -- ---- the name of an ATTLIST

  module _ (at : ℕ) (row : Row) (c : Due text upto e (drop at text) row) (a : ℕ) (x : At text a (past is_white (drop at text))) where
    abbrev behind : List ℕ
    behind = c.spelled.0

    name_here : drop a text ≡ behind
    name_here = x.rest ∙ past_white c.spelled.1.1

    called_here : (name_at text a ≡ c.name) × (past is_more (drop a text) ≡ c.spelled.2.0)
    called_here = rw name_here (named c.name behind c.spelled.2.0 c.spelled.2.1)

    end_here : beyond (drop at text) ≡ c.r
    end_here =
        white_clear (drop at text) behind c.spelled.1.1
        ∙ name_clear c.name behind c.spelled.2.0 c.spelled.2.1
        ∙ definitions_end c.ds c.spelled.2.0 c.r c.spelled.2.2

    module _ (y : Bool) (q : y ≡ same (name_at text a) (name_at text e)) where
      pub other_scan : y ≡ false → Scan text upto e (beyond (drop at text)) row
      other_scan p =
          let o : same n c.name ≡ false = ap (same n) (sym called_here.0) ∙ same_sym (name_at text a) n (sym q ∙ p) in
          rw end_here (record {
            done = c.done ++ attlist c.name c.ds ∷ [];
            left = c.left;
            row_of = rw (for_append n c.done (attlist c.name c.ds ∷ []), o, append-nil (defined_for n c.done)) c.row_of;
          })

      module _ (p : y ≡ true) (b : ℕ) (z : At text b (past is_more (drop a text))) where
        here_b : drop b text ≡ c.spelled.2.0
        here_b = z.rest ∙ called_here.1

        mine : n ≡ c.name
        mine = sym (same_true (name_at text a) n (sym q ∙ p)) ∙ called_here.0

        pub same_mid : Mid (drop b text) row
        same_mid = record {
          done = c.done;
          own = [];
          ds = c.ds;
          r = c.r;
          spelled = rw here_b c.spelled.2.2;
          keeps = rw mine c.keeps;
          left = rw mine c.left;
          row_of = rw (append-nil (defined_for n c.done)) c.row_of;
        }

        pub same_scan : (row' : Row) → Scan text upto e (beyond (drop b text)) row' → Scan text upto e (beyond (drop at text)) row'
        same_scan row' k =
            let f : beyond (drop b text) ≡ beyond (drop at text) =
            ap beyond here_b ∙ definitions_end c.ds c.spelled.2.0 c.r c.spelled.2.2 ∙ sym end_here in
            rw f at k
