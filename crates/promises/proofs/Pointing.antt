-- What an answer 9 points at: where the content of an element stops. Assumes nothing.
use Rattle.std.proofs.Math.Path.{◌≡◌, refl, sym, ap}
use Rattle.std.proofs.Common.{ap₂, ◌∙◌, arith}
use Rattle.std.specs.Prelude.{◌≢◌, Bool, List, [], ◌∷◌, ◌++◌, ℕ, zero, suc, ◌+◌, leb, eqb, ltb, ℤ, length, take}
use Rattle.std.proofs.Math.Bool.{true, false, cond}
use Rattle.paper.specs.declared.Tok.{Tok}
use Rattle.paper.specs.declared.Tok.TheVariants.{Start, End, Text, Attr, Value, Bad}
use Rattle.paper.specs.Basics.{between, all}
use Rattle.paper.specs.Tokens.{toks, heads, kids, child_at}
use Rattle.paper.specs.Shape.{shape_of}
use Rattle.paper.specs.Schema.{Schema}
use Rattle.paper.specs.Rules.{Rules, of_schema, of_table}
use Rattle.paper.specs.Judgement.{Answer, none_found, or_else, before, attributes_good, content_good, content_begun, stop_after, element_fault, fault_at, first, place_of, root_fault, key_fault, judge, whole, checking}
use Rattle.paper.specs.Validity.{PointsAt}
use Rattle.paper.specs.Back.{needs}
use Rattle.paper.specs.Counts.{moved, count_good}
use Rattle.paper.specs.Edits.{Request, Outcome, refused, done, outcome, edited, touched_by, made, good_piece, good_place, fits, form_fault, or_next, size_fault, limit_fault, answered, editing, edit_by}
use Rattle.judge_laws.specs.Contents.{content_iff}
use Rattle.judge_laws.proofs.Begun.{stops_means}
use Rattle.judge_laws.specs.ByRun.{table_stops}
use Rattle.answer_laws.specs.NeverSeven.{keys_never}
use Rattle.promises.specs.Statements.{PointsByRun}

-- an element whose content is not good, and the place where it stops; d begins at place i
record Faulty (R : Rules) (d : List Tok) (i place : ℕ) : Type 0 where
  element : ℕ
  earlier : List Tok
  after : List Tok
  tokens : d ≡ earlier ++ Start element ∷ after
  bad : content_good R element (kids zero after) ≡ false
  at_place : place ≡ i + (length earlier + suc (child_at (stop_after (content_begun R element) (kids zero after)) zero after))

number_of : {k p n q : ℕ} → ◌≡◌ {A = Answer} (k, p) (n, q) → k ≡ n
number_of e = ap (λ (a : Answer). a.0) e

module _ (R : Rules) where
  -- ---- the elements

  content_bad : (n : ℕ) (h k : List Tok) → element_fault R n h k ≡ 9 → content_good R n k ≡ false
  unfolding element_fault
  content_bad n h k e = go (ltb n R.elements) (attributes_good R n h) (content_good R n k) e
    where
      go : (a b c : Bool) → ◌≡◌ {A = ℕ} (cond a (cond b (cond c 0 9) 8) 7) 9 → c ≡ false
      go true true true e = absurd (omega arith)
      go true true false e = refl
      go true false c e = absurd (omega arith)
      go false b c e = absurd (omega arith)

  here : (x : Tok) (d : List Tok) (i place : ℕ) → fault_at (element_fault R) (x ∷ d) ≡ 9 → place_of R 9 i (x ∷ d) ≡ place → Faulty R (x ∷ d) i place
  here (Start n) d i place e q = record {
    element = n;
    earlier = [];
    after = d;
    tokens = refl;
    bad = content_bad n (heads d) (kids zero d) e;
    at_place = sym q ∙ omega arith;
  }
  here End d i place e q = absurd (omega arith)
  here (Text n) d i place e q = absurd (omega arith)
  here (Attr n) d i place e q = absurd (omega arith)
  here (Value n) d i place e q = absurd (omega arith)
  here Bad d i place e q = absurd (omega arith)

  later : (x : Tok) (d : List Tok) (i place : ℕ) → Faulty R d (suc i) place → Faulty R (x ∷ d) i place
  later x d i place f = record {
    element = f.element;
    earlier = x ∷ f.earlier;
    after = f.after;
    tokens = ap (λ l. x ∷ l) f.tokens;
    bad = f.bad;
    at_place = let p = f.at_place in omega arith;
  }

  first_nine : (J : ℕ → Bool) (i : ℕ) (d : List Tok) (place : ℕ) → first (element_fault R) (place_of R) J i d ≡ (9, place) → Faulty R d i place
  first_nine J i [] place e = let z = number_of e in absurd (omega arith)
  first_nine J i (x ∷ d) place e = go (J i) (fault_at (element_fault R) (x ∷ d)) refl e (first_nine J (suc i) d place)
    where
      rest : Answer
      rest = first (element_fault R) (place_of R) J (suc i) d

      go : (b : Bool) (f : ℕ) → fault_at (element_fault R) (x ∷ d) ≡ f → or_else (cond b f 0) (place_of R f i (x ∷ d)) rest ≡ (9, place)
          → (rest ≡ (9, place) → Faulty R d (suc i) place) → Faulty R (x ∷ d) i place
      go true zero q e next = later x d i place (next e)
      go true (suc f) q e next =
          let z : suc f ≡ 9 = number_of e in
          here x d i place (q ∙ z) (ap (λ k. place_of R k i (x ∷ d)) (sym z) ∙ ap (λ (a : Answer). a.1) e)
      go false f q e next = later x d i place (next e)

  -- ---- the judgement

  root_never : (d : List Tok) → (root_fault R d).0 ≢ 9
  root_never [] z = absurd (omega arith)
  root_never (Start n ∷ d) z = go (eqb n R.root) z
    where
      go : (b : Bool) → (cond b none_found (10, 0)).0 ≢ 9
      go true z = absurd (omega arith)
      go false z = absurd (omega arith)
  root_never (End ∷ d) z = absurd (omega arith)
  root_never (Text n ∷ d) z = absurd (omega arith)
  root_never (Attr n ∷ d) z = absurd (omega arith)
  root_never (Value n ∷ d) z = absurd (omega arith)
  root_never (Bad ∷ d) z = absurd (omega arith)

  -- the second of two answers, where the first is no 9; and the first, where the second is none
  second : (a r : Answer) (place : ℕ) → a.0 ≢ 9 → before a r ≡ (9, place) → r ≡ (9, place)
  second a r place n e = go a.0 n e
    where
      go : (f : ℕ) → f ≢ 9 → or_else f a.1 r ≡ (9, place) → r ≡ (9, place)
      go zero n e = e
      go (suc f) n e = absurd (n (number_of e))

  foremost : (a r : Answer) (place : ℕ) → r.0 ≢ 9 → before a r ≡ (9, place) → a ≡ (9, place)
  foremost a r place n e = go a.0 e
    where
      go : (f : ℕ) → or_else f a.1 r ≡ (9, place) → ◌≡◌ {A = Answer} (f, a.1) (9, place)
      go zero e = absurd (n (ap (λ (x : Answer). x.0) e))
      go (suc f) e = e

  judge_nine : (J : ℕ → Bool) (d : List Tok) (place : ℕ) → judge R J d ≡ (9, place) → Faulty R d 0 place
  unfolding judge
  judge_nine J d place e =
      let elements = first (element_fault R) (place_of R) J 0 d in
      let keys = keys_never 9 (λ z. omega arith) (λ z. omega arith) (λ z. omega arith) R d in
      first_nine J 0 d place (foremost elements (key_fault R d) place keys (second (root_fault R d) (before elements (key_fault R d)) place (root_never d) e))

-- ---- by the run of any table, and by the expressions of a schema

pub points_by_run : PointsByRun
points_by_run table J d place e =
    let f = judge_nine (of_table table) J d place e in
    record {
      element = f.element;
      before = f.earlier;
      after = f.after;
      tokens = f.tokens;
      child = stop_after (content_begun (of_table table) f.element) (kids zero f.after);
      stops = (table_stops table f.element (kids zero f.after) _).1 (λ t. rw f.bad at t, refl);
      at_place = let p = f.at_place in omega arith;
    }

module _ (s : Schema) where
  pub points : (J : ℕ → Bool) (d : List Tok) (place : ℕ) → judge (of_schema s) J d ≡ (9, place) → PointsAt s d place
  points J d place e =
      let f = judge_nine (of_schema s) J d place e in
      record {
        element = f.element;
        before = f.earlier;
        after = f.after;
        tokens = f.tokens;
        child = stop_after (content_begun (of_schema s) f.element) (kids zero f.after);
        stops = (stops_means s f.element f.after _).1 (λ v. rw f.bad at ((content_iff s f.element f.after).1 v), refl);
        at_place = let p = f.at_place in omega arith;
      }

  -- ---- a check, and an edit

  pub check_points : (buffer : List ℕ) (used : ℕ) (o : Answer) → o ≡ checking (of_schema s) buffer used → o.0 ≡ 9 → PointsAt s (toks (take used buffer)) o.1
  unfolding checking
  check_points buffer used o e n = go (shape_of buffer used) e
    where
      go : (b : Bool) → o ≡ cond b (judge (of_schema s) whole (toks (take used buffer))) (4, 0) → PointsAt s (toks (take used buffer)) o.1
      go true e = points whole (toks (take used buffer)) o.1 (sym e ∙ ap (λ k. (k, o.1)) n)
      go false e = let z : 4 ≡ o.0 = sym (ap (λ (a : Answer). a.0) e) in absurd (omega arith)

  module _ (buffer : List ℕ) (used : ℕ) (q : Request) (second : List ℕ) (counts : List ℤ) (o : Outcome) (n : o.number ≡ 9) where
    abbrev Here : Type 0
    Here = PointsAt s (toks (edited q (take used buffer))) o.place

    abbrev judged : Answer
    judged = judge (of_schema s) (touched_by q (take used buffer)) (toks (edited q (take used buffer)))

    -- a refusal of another number is none of 9
    other : (k p : ℕ) → k ≢ 9 → o ≡ outcome buffer used second counts (refused k p) → Here
    other k p m e = absurd (m (sym (ap (λ (x : Outcome). x.number) e) ∙ n))

    by_judge : o ≡ outcome buffer used second counts (answered 0 judged (made (of_schema s).elements q (take used buffer) counts)) → Here
    by_judge e = go (eqb judged.0 0) e
      where
        go : (b : Bool) → o ≡ outcome buffer used second counts (cond b (done (made (of_schema s).elements q (take used buffer) counts)) (refused judged.0 judged.1)) → Here
        go true e = let z : o.number ≡ 0 = ap (λ (x : Outcome). x.number) e in absurd (omega arith)
        go false e =
            points (touched_by q (take used buffer)) (toks (edited q (take used buffer))) o.place
            (ap₂ (λ k p. (k, p)) (sym (ap (λ (x : Outcome). x.number) e) ∙ n) (sym (ap (λ (x : Outcome). x.place) e)))

    by_form : o ≡ outcome buffer used second counts (editing (of_schema s) (length buffer) (length second) q (take used buffer) counts) → Here
    unfolding editing limit_fault size_fault form_fault
    by_form e =
        go (between 1 5 q.operation) (good_piece q.operation (toks q.piece)) (good_place q.operation q.place (toks q.piece) (toks (take used buffer)))
        (fits (length buffer) (edited q (take used buffer))) (leb (needs q (take used buffer)) (length second))
        (all count_good (moved (of_schema s).elements q (take used buffer) counts)) e
      where
        go : (a b c d r g : Bool)
            → o ≡ outcome buffer used second counts (answered (or_next (or_next (cond a (cond b (cond c (cond d 0 5) 6) 4) 6) (cond r 0 5)) (cond g 0 15)) judged (made (of_schema s).elements q (take used buffer) counts)) → Here
        go true true true true true true e = by_judge e
        go true true true true true false e = other 15 0 (λ z. omega arith) e
        go true true true true false g e = other 5 0 (λ z. omega arith) e
        go true true true false r g e = other 5 0 (λ z. omega arith) e
        go true true false d r g e = other 6 0 (λ z. omega arith) e
        go true false c d r g e = other 4 0 (λ z. omega arith) e
        go false b c d r g e = other 6 0 (λ z. omega arith) e

    pub edit_points : o ≡ outcome buffer used second counts (edit_by (of_schema s) buffer used q second counts) → PointsAt s (toks (edited q (take used buffer))) o.place
    unfolding edit_by
    edit_points e = go (shape_of buffer used) e
      where
        go : (b : Bool) → o ≡ outcome buffer used second counts (cond b (editing (of_schema s) (length buffer) (length second) q (take used buffer) counts) (refused 4 0)) → Here
        go true e = by_form e
        go false e = other 4 0 (λ z. omega arith) e
