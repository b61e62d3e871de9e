-- The steps of a definition: white space, a new name, a kind that is no second ID, a status. Assumes nothing.
use Rattle.std.specs.Prelude.{◌≡◌, refl, ◌≢◌, Bool, true, false, cond, Result, Ok, Err, List, ℕ, ◌≤◌, ◌<◌, ltb, length, drop}
use Rattle.std.proofs.Common.{sym, ap, ◌∙◌, arith, lt-ltb, le-ltb, eq-eqb, ne_eqb}
use Rattle.paper.specs.Basics.{most_attributes}
use Rattle.paper.specs.Codes.{number_of, kind_of}
use Rattle.paper.specs.Sets.{bit}
use Rattle.paper.specs.declared.Refusal.TheVariants.{Schema, DtdText}
use Rattle.paper.specs.Dtd.Letters.{Name, is_white, is_first, is_more, begins, run, past}
use Rattle.paper.specs.Dtd.Declarations.{Kind, Status}
use Rattle.paper.specs.Dtd.Numbering.{number_in, kind_number, status_number}
use Rattle.paper.specs.Codes as Codes
use Rattle.paper.specs.Dtd.Readers.{Read, stop, ok, Reader, outside, onward, ◌>>◌, tested, S, name, kind, status}
use Rattle.paper.specs.Dtd.Reading.{limit}
use Rattle.dtd_words.specs.declared.Fault.{Fault}
use Rattle.dtd_words.specs.Places.{At}
use Rattle.dtd_words.specs.Words.{CameTo, Came, faulty, onwards, came_faulty, came_onwards}
use Rattle.dtd_names.specs.Named.{name_at}
use Rattle.dtd_kinds.specs.declared.Kinded.{Kinded}
use Rattle.dtd_kinds.specs.declared.Stated.{Stated}
use Rattle.dtd_kinds.specs.Kinds.{KindCame, StatusCame}
use Rattle.dtd_rows.specs.declared.Row.{Row}
use Rattle.dtd_definitions.specs.declared.Named.{Named}
use Rattle.dtd_definitions.specs.Asked.{new_in, room_in, ids_in}

-- ---- readers

abbrev pub new_name : List Name → Row → Reader Name
new_name names row = tested limit (room_in names) (tested outside (new_in names row) name)

abbrev pub new_kind : Row → Reader Kind
new_kind row = tested limit (ids_in row) kind

abbrev pub name_after : List Name → Row → Reader Name
name_after names row = S >> new_name names row

abbrev pub kind_after : Row → Reader Kind
kind_after row = S >> new_kind row

abbrev pub status_after : Reader Status
status_after = S >> status

-- what the reader of a name came to: its place and its number among the names
abbrev pub NameIs : List ℕ → List Name → Named → Name → List ℕ → Type 0
NameIs text names v a s = At text v.at s × (name_at text v.place ≡ a) × (v.attribute ≡ number_in names a)

abbrev pub NameCame : List ℕ → List Name → Result Named Fault → Read Name → Type 0
NameCame text names r o = CameTo (NameIs text names) text r o

abbrev pub KindIs : List ℕ → Kinded → Kind → List ℕ → Type 0
KindIs text v k s = At text v.at s × (kind_of v.kind ≡ kind_number k)

abbrev pub StatusIs : List ℕ → Stated → Status → List ℕ → Type 0
StatusIs text v t s = At text v.at s × (Codes.status_of v.status ≡ status_number t)

-- ---- white space

module _ (text : List ℕ) (at : ℕ) where
  -- behind it: refused, or gone on
  module _ (e : Fault) (c : Came text (Err e) (S (drop at text))) where
    pub no_name_after : (names : List Name) (row : Row) → NameCame text names (Err e) (name_after names row (drop at text))
    no_name_after names row = came_faulty (NameIs text names) text (λ u. new_name names row) e (S (drop at text)) c

    pub no_kind_after : (row : Row) → KindCame text (Err e) (kind_after row (drop at text))
    no_kind_after row = came_faulty (KindIs text) text (λ u. new_kind row) e (S (drop at text)) c

    pub no_status_after : StatusCame text (Err e) (status_after (drop at text))
    no_status_after = came_faulty (StatusIs text) text (λ u. status) e (S (drop at text)) c

  module _ (w : ℕ) (c : Came text (Ok w) (S (drop at text))) where
    pub name_behind : (names : List Name) (row : Row) (r : Result Named Fault) → NameCame text names r (new_name names row (drop w text)) → NameCame text names r (name_after names row (drop at text))
    name_behind names row r x = came_onwards (NameIs text names) text (λ u. new_name names row) w (S (drop at text)) r c (λ u. x)

    pub kind_behind : (row : Row) (r : Result Kinded Fault) → KindCame text r (new_kind row (drop w text)) → KindCame text r (kind_after row (drop at text))
    kind_behind row r x = came_onwards (KindIs text) text (λ u. new_kind row) w (S (drop at text)) r c (λ u. x)

    pub status_behind : (r : Result Stated Fault) → StatusCame text r (status (drop w text)) → StatusCame text r (status_after (drop at text))
    status_behind r x = came_onwards (StatusIs text) text (λ u. status) w (S (drop at text)) r c (λ u. x)

-- ---- what is asked of what was read

module _ {A V : Type 0} (P : V → A → List ℕ → Type 0) (text : List ℕ) (n : ℕ) (T : A → Bool) (m : Reader A) (s : List ℕ) where
  abbrev asked : A → Reader A
  asked a r = cond (T a) (ok a r) (stop n s)

  tested_faulty : (e : Fault) → CameTo P text (Err e) (m s) → CameTo P text (Err e) (tested n T m s)
  tested_faulty e c = faulty P P text asked e (m s) c

  module _ (v : V) (c : CameTo P text (Ok v) (m s)) where
    tested_taken : ((a : A) (r : List ℕ) → P v a r → T a ≡ true) → CameTo P text (Ok v) (tested n T m s)
    tested_taken g = onwards P P text asked v (m s) (Ok v) c (λ a r p. rw (g a r p) p)

    tested_stopped : (e : Fault) → ((a : A) (r : List ℕ) → P v a r → T a ≡ false) → number_of e.refusal ≡ n → At text e.at s → CameTo P text (Err e) (tested n T m s)
    tested_stopped e g q h = onwards P P text asked v (m s) (Err e) c (λ a r p. rw (g a r p) (q, h))

-- ---- a new name

module _ (text : List ℕ) (names : List Name) (row : Row) (at : ℕ) where
  abbrev New : Result Named Fault → Type 0
  New r = NameCame text names r (new_name names row (drop at text))

  abbrev fresh_name : Reader Name
  fresh_name = tested outside (new_in names row) name

  pub no_name : (e : Fault) → Came text (Err e) (name (drop at text)) → New (Err e)
  no_name e c =
      tested_faulty (NameIs text names) text limit (room_in names) fresh_name (drop at text) e
      (tested_faulty (NameIs text names) text outside (new_in names row) name (drop at text) e (by (begins is_first (drop at text)) c))
    where
      by : (x : Bool) → Came text (Err e) (cond x (ok (run is_more (drop at text)) (past is_more (drop at text))) (stop 14 (drop at text)))
          → NameCame text names (Err e) (cond x (ok (run is_more (drop at text)) (past is_more (drop at text))) (stop 14 (drop at text)))
      by true c = absurd c
      by false c = c

  module _ (b z : ℕ) (c : Came text (Ok b) (name (drop at text))) (f : z ≡ number_in names (name_at text at)) where
    abbrev it : Named
    it = record { place = at; attribute = z; at = b }

    name_read : NameCame text names (Ok it) (name (drop at text))
    name_read = by (begins is_first (drop at text)) c
      where
        by : (x : Bool) → Came text (Ok b) (cond x (ok (run is_more (drop at text)) (past is_more (drop at text))) (stop 14 (drop at text)))
            → NameCame text names (Ok it) (cond x (ok (run is_more (drop at text)) (past is_more (drop at text))) (stop 14 (drop at text)))
        by true c = (c, refl, f)
        by false c = absurd c

    pub over_limit : at ≤ length text → most_attributes ≤ z → New (Err (record { refusal = Schema; at = at }))
    over_limit h k =
        let low : (a : Name) (r : List ℕ) → NameIs text names it a r → ltb (number_in names a) most_attributes ≡ false =
        λ a r p. rw (← p.2) (le-ltb z most_attributes k) in
        tested_stopped (NameIs text names) text limit (room_in names) fresh_name (drop at text) it
        (tested_taken (NameIs text names) text outside (new_in names row) name (drop at text) it name_read (λ a r p. rw (low a r p)))
        (record { refusal = Schema; at = at }) low refl (record { inside = h; rest = refl })

    module _ (k : z < most_attributes) (x : Bool) (e : x ≡ bit row.allowed z) where
      low : (a : Name) (r : List ℕ) → NameIs text names it a r → ltb (number_in names a) most_attributes ≡ true
      low a r p = rw (← p.2) (lt-ltb z most_attributes k)

      test : (a : Name) (r : List ℕ) → NameIs text names it a r → bit row.allowed (number_in names a) ≡ x
      test a r p = rw (← p.2) (sym e)

      pub twice : at ≤ length text → x ≡ true → New (Err (record { refusal = DtdText; at = at }))
      twice h q =
          tested_faulty (NameIs text names) text limit (room_in names) fresh_name (drop at text) (record { refusal = DtdText; at = at })
          (tested_stopped (NameIs text names) text outside (new_in names row) name (drop at text) it name_read (record { refusal = DtdText; at = at })
          (λ a r p. rw (low a r p, test a r p, q)) refl (record { inside = h; rest = refl }))

      pub fresh : x ≡ false → New (Ok it)
      fresh q =
          tested_taken (NameIs text names) text limit (room_in names) fresh_name (drop at text) it
          (tested_taken (NameIs text names) text outside (new_in names row) name (drop at text) it name_read (λ a r p. rw (low a r p, test a r p, q)))
          low

-- ---- a kind

module _ (text : List ℕ) (row : Row) (at : ℕ) where
  pub kind_failed : (e : Fault) → KindCame text (Err e) (kind (drop at text)) → KindCame text (Err e) (new_kind row (drop at text))
  kind_failed e c = tested_faulty (KindIs text) text limit (ids_in row) kind (drop at text) e c

  module _ (k : Kinded) (c : KindCame text (Ok k) (kind (drop at text))) where
    taken : ((y : Kind) → kind_of k.kind ≡ kind_number y → ids_in row y ≡ true) → KindCame text (Ok k) (new_kind row (drop at text))
    taken g = tested_taken (KindIs text) text limit (ids_in row) kind (drop at text) k c (λ y s p. g y p.1)

    pub kind_other : kind_of k.kind ≢ 1 → KindCame text (Ok k) (new_kind row (drop at text))
    kind_other q = taken (λ y f. rw (ne_eqb (kind_number y) 1 (λ z. q (f ∙ z))))

    pub kind_first : kind_of k.kind ≡ 1 → row.id ≡ 0 → KindCame text (Ok k) (new_kind row (drop at text))
    kind_first q o = taken (λ y f. rw (eq-eqb (kind_number y) 1 (sym f ∙ q), o))

    pub kind_second : at ≤ length text → kind_of k.kind ≡ 1 → row.id ≢ 0 → KindCame text (Err (record { refusal = Schema; at = at })) (new_kind row (drop at text))
    kind_second h q o =
        tested_stopped (KindIs text) text limit (ids_in row) kind (drop at text) k c (record { refusal = Schema; at = at })
        (λ y s p. rw (eq-eqb (kind_number y) 1 (sym p.1 ∙ q), ne_eqb row.id 0 o)) refl (record { inside = h; rest = refl })
