-- An ATTLIST, put together of its steps. Assumes nothing.
use Rattle.std.specs.Prelude.{◌≡◌, refl, Bool, true, false, cond, Result, Ok, Err, List, [], ◌∷◌, ◌++◌, ℕ, zero, suc, ◌≤◌, length, drop, take}
use Rattle.std.proofs.Common.{sym, ap}
use Rattle.paper.specs.Basics.{most_attributes}
use Rattle.paper.specs.Dtd.Letters.{Name, is_first, is_more, begins, run, past, word_attlist}
use Rattle.paper.specs.Dtd.Declarations.{Definition, Declaration, attlist, attribute_names}
use Rattle.paper.specs.Dtd.Readers.{Read, stop, ok, Reader, onward, bounded, pure, literal, S, name}
use Rattle.paper.specs.Dtd.Reading.{mention, att_def, due, ended, att_defs, attlist_decl}
use Rattle.dtd_laws.specs.Unique.{any}
use Rattle.dtd_words.specs.declared.Fault.{Fault}
use Rattle.dtd_words.specs.Places.{At}
use Rattle.dtd_words.specs.Words.{CameTo, Came, came_faulty, came_onwards}
use Rattle.dtd_names.specs.Named.{name_at, names_at}
use Rattle.dtd_before.specs.Paths.{declared_to}
use Rattle.dtd_heads.specs.declared.Found.{Found}
use Rattle.dtd_heads.specs.Heads.{Heads}
use Rattle.dtd_heads.specs.After.{Kept, RowFound, heads_kept}
use Rattle.dtd_attributes.specs.declared.Listed.{Listed}
use Rattle.dtd_attributes.specs.declared.Ended.{Ended}
use Rattle.dtd_attributes.specs.Adding.{definitions, EndCame}

-- what the reader of an ATTLIST came to: the names of the text's attributes then, and the table of rows
abbrev pub ListedIs : (text : List ℕ) (upto : ℕ) (exit heads rows : List ℕ) → Listed → Declaration → List ℕ → Type 0
ListedIs text upto exit heads rows r d s =
    At text r.at s
    × (r.count ≤ most_attributes)
    × (names_at text (take r.count exit) ≡ attribute_names (declared_to text upto ++ d ∷ []))
    × Heads text (declared_to text upto ++ d ∷ []) heads r.many rows

abbrev pub ListedCame : (text : List ℕ) (upto : ℕ) (exit heads rows : List ℕ) → Result Listed Fault → Read Declaration → Type 0
ListedCame text upto exit heads rows r o = CameTo (ListedIs text upto exit heads rows) text r o

-- ---- the definitions, and the row that is kept

abbrev pub ElementCame : (text : List ℕ) (upto e : ℕ) (exit heads rows : List ℕ) → Result Listed Fault → Read (List Definition) → Type 0
ElementCame text upto e exit heads rows r o = CameTo (λ v ds s. ListedIs text upto exit heads rows v (attlist (name_at text e) ds) s) text r o

pub element_came : (text : List ℕ) (upto e many : ℕ) (heads heads' rows rows' exit : List ℕ) (f : Found) (x : Ended) (m : ℕ) (o : Read (List Definition))
    → Heads text (declared_to text upto) heads many rows → RowFound text upto e heads many f → EndCame text upto e exit (Ok x) o
    → Kept heads heads' many rows rows' f.place e x.row m
    → ElementCame text upto e exit heads' rows' (Ok (record { at = x.at; count = x.count; many = m })) o
element_came text upto e many heads heads' rows rows' exit f x m (ok ds s) t g (b, c, d, w) k =
    (b, c, d, heads_kept text (declared_to text upto) heads many rows t e ds x.row w f.place g.place heads' rows' m k)
element_came text upto e many heads heads' rows rows' exit f x m (stop j s) t g c k = absurd c

pub element_failed : (text : List ℕ) (upto e : ℕ) (exit exit' heads rows : List ℕ) (f : Fault) (o : Read (List Definition))
    → EndCame text upto e exit (Err f) o → ElementCame text upto e exit' heads rows (Err f) o
element_failed text upto e exit exit' heads rows f (ok ds s) c = absurd c
element_failed text upto e exit exit' heads rows f (stop k s) c = c

-- ---- definitions ask for no name

onward_same : {A B : Type 0} (x : Read A) (f g : A → Reader B) → ((a : A) (s : List ℕ) → f a s ≡ g a s) → onward x f ≡ onward x g
onward_same (stop k s) f g h = refl
onward_same (ok a s) f g h = h a s

any_same : (known : Name → Bool) (old : List Declaration) (e : Name) (b : ℕ) (own : List Definition) (s : List ℕ) → att_defs any old e b own s ≡ att_defs known old e b own s
any_same known old e zero own s = refl
any_same known old e (suc b) own s =
    ap (λ z. cond (due any s) z (ended any own s))
    (onward_same (att_def any (old ++ attlist e own ∷ []) e s) (λ d. att_defs any old e b (own ++ d ∷ [])) (λ d. att_defs known old e b (own ++ d ∷ []))
    (λ d t. any_same known old e b (own ++ d ∷ []) t))

-- ---- step by step

module _ (text : List ℕ) (upto : ℕ) (known : Name → Bool) (at : ℕ) (exit heads rows : List ℕ) where
  abbrev old : List Declaration
  old = declared_to text upto

  abbrev Is : Listed → Declaration → List ℕ → Type 0
  Is = ListedIs text upto exit heads rows

  abbrev Whole : Result Listed Fault → Type 0
  Whole r = ListedCame text upto exit heads rows r (attlist_decl known (declared_to text upto) (drop at text))

  -- behind the name, behind white space, and behind the word
  abbrev lastly : Name → Reader Declaration
  lastly e t = onward (bounded (λ b. att_defs known old e b []) t) (λ ds. pure (attlist e ds))

  abbrev further : Reader Declaration
  further t = onward (mention known t) lastly

  abbrev behind : Reader Declaration
  behind t = onward (S t) (λ u. further)

  pub no_word : (f : Fault) → Came text (Err f) (literal word_attlist (drop at text)) → Whole (Err f)
  no_word f c = came_faulty Is text (λ u. behind) f (literal word_attlist (drop at text)) c

  module _ (s : ℕ) (c : Came text (Ok s) (literal word_attlist (drop at text))) where
    word_read : (r : Result Listed Fault) → CameTo Is text r (behind (drop s text)) → Whole r
    word_read r x = came_onwards Is text (λ u. behind) s (literal word_attlist (drop at text)) r c (λ u. x)

    pub no_white : (f : Fault) → Came text (Err f) (S (drop s text)) → Whole (Err f)
    no_white f d = word_read (Err f) (came_faulty Is text (λ u. further) f (S (drop s text)) d)

    module _ (w : ℕ) (d : Came text (Ok w) (S (drop s text))) where
      white_read : (r : Result Listed Fault) → CameTo Is text r (further (drop w text)) → Whole r
      white_read r x = word_read r (came_onwards Is text (λ u. further) w (S (drop s text)) r d (λ u. x))

      pub no_mention : (f : Fault) → Came text (Err f) (mention known (drop w text)) → Whole (Err f)
      no_mention f g = white_read (Err f) (came_faulty Is text lastly f (mention known (drop w text)) g)

      module _ (m : ℕ) (g : Came text (Ok m) (mention known (drop w text))) where
        mentioned : mention known (drop w text) ≡ ok (name_at text w) (drop m text)
        mentioned = by (begins is_first (drop w text)) g
          where
            pick : (b : Bool) → Came text (Ok m) (cond b (ok (run is_more (drop w text)) (past is_more (drop w text))) (stop 14 (drop w text)))
                → cond b (ok (run is_more (drop w text)) (past is_more (drop w text))) (stop 14 (drop w text)) ≡ ok (name_at text w) (drop m text)
            pick true a = ap (λ t. ok (name_at text w) t) (sym a.rest)
            pick false a = absurd a

            by : (b : Bool)
                → Came text (Ok m) (onward (cond b (ok (run is_more (drop w text)) (past is_more (drop w text))) (stop 14 (drop w text))) (λ a r. cond (known a) (ok a r) (stop 14 (drop w text))))
                → onward (cond b (ok (run is_more (drop w text)) (past is_more (drop w text))) (stop 14 (drop w text))) (λ a r. cond (known a) (ok a r) (stop 14 (drop w text)))
                ≡ ok (name_at text w) (drop m text)
            by true a = pick (known (name_at text w)) a
            by false a = absurd a

        pub all_listed : (r : Result Listed Fault) → ElementCame text upto w exit heads rows r (definitions text upto w (drop m text)) → Whole r
        all_listed r x =
            white_read r
            (rw (mentioned, ← any_same known old (name_at text w) (suc (length (drop m text))) [] (drop m text)) (by r (definitions text upto w (drop m text)) x))
          where
            by : (r : Result Listed Fault) (z : Read (List Definition)) → ElementCame text upto w exit heads rows r z
                → ListedCame text upto exit heads rows r (onward z (λ ds. pure (attlist (name_at text w) ds)))
            by (Ok v) (ok ds t) y = y
            by (Ok v) (stop k t) y = absurd y
            by (Err f) (ok ds t) y = absurd y
            by (Err f) (stop k t) y = y
