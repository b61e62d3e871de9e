-- Demand 3, edit by edit over a run: from a document that is valid by the expressions each edit through the table is made
-- rightly, and the document is valid again. Assumes nothing.
use Rattle.std.specs.Prelude.{◌≡◌, ◌↔◌, ◌≢◌, Bool, true, false, cond, ◌&&◌, List, [], ◌∷◌, map, leb, eqb, ℤ, length, take}
use Rattle.std.proofs.Math.Path.{refl}
use Rattle.std.proofs.Common.{sym, subst, ◌∙◌, arith, leb-true, eqb-true}
use Prim.Native.Nat.{ℕ, zero, suc, ◌≤◌}
use Rattle.std.proofs.Math.Decide.{ℕ_discrete}
use Rattle.std.proofs.lemmas.Bool.{eqb-false}
use Rattle.std.proofs.Math.Seq.{take-length}
use Rattle.paper.specs.declared.Tok.{Tok}
use Rattle.paper.specs.Basics.{most_tokens, elem}
use Rattle.paper.specs.Schema.{Schema}
use Rattle.paper.specs.Tokens.{toks}
use Rattle.paper.specs.Shape.{shallow, shape_of}
use Rattle.paper.specs.Rules.{Rules, of_schema}
use Rattle.paper.specs.Judgement.{Answer, none_found, or_else, before, root_fault, element_fault, first, place_of, repeated, dangling, ids_of, refs_of, value_in, key_fault, judge, whole, checking}
use Rattle.paper.specs.Validity.{ValidDocument}
use Rattle.paper.specs.Edits.{Request, Outcome, refused, done, outcome, edited, touched_by, Made, made, size_fault, limit_fault, answered, editing, edit_by}
use Rattle.shape_laws.specs.EditJudged.{Asked, form_iff, judged_whole, asked_shape}
use Rattle.back_laws.specs.Sizes.{size_iff}
use Rattle.count_laws.specs.Laws.{moved_true}
use Rattle.count_laws.specs.Limits.{never_met}
use Rattle.shape_laws.specs.Written.{written_take}
use Rattle.promises.specs.Calls.{papers}
use Rattle.promises.specs.Right.{Kept, Left, InForm, TrueBeside, Right, Step, EachRight}
use Rattle.promises.specs.Statements.{Translated, Runs}
use Rattle.promises.proofs.Written.{written_valid}
use Rattle.answer_laws.specs.ShapeParts.{and_right, shape_long, shape_element}
use Rattle.promises.proofs.Always.{edit_keeps, edit_leaves}
use Rattle.promises.proofs.ByTable.{edit_judged, table_reads}

-- ---- an answer with number 0 has place 0

abbrev Neat : Answer → Type 0
Neat a = a.0 ≡ 0 → a ≡ none_found

before_neat : (a r : Answer) → Neat r → Neat (before a r)
before_neat a r n = go a.0
  where
    go : (f : ℕ) → (or_else f a.1 r).0 ≡ 0 → or_else f a.1 r ≡ none_found
    go zero e = n e
    go (suc f) e = absurd (omega arith)

dangling_neat : (ids : List ℕ) (l : List (ℕ × ℕ)) → Neat (dangling ids l)
dangling_neat ids [] = λ e. refl
dangling_neat ids (p ∷ l) = go (elem p.1 ids) (dangling_neat ids l)
  where
    go : (b : Bool) → Neat (dangling ids l) → (cond b (dangling ids l) (12, p.0)).0 ≡ 0 → cond b (dangling ids l) (12, p.0) ≡ none_found
    go true n e = n e
    go false n e = absurd (omega arith)

judge_neat : (R : Rules) (J : ℕ → Bool) (d : List Tok) → Neat (judge R J d)
unfolding judge
judge_neat R J d =
    before_neat (root_fault R d) (before (first (element_fault R) (place_of R) J 0 d) (key_fault R d))
    (before_neat (first (element_fault R) (place_of R) J 0 d) (key_fault R d)
    (before_neat (repeated [] (ids_of R d)) (dangling (map value_in (ids_of R d)) (refs_of R d)) (dangling_neat (map value_in (ids_of R d)) (refs_of R d))))

-- ---- the answer to an edit in form

-- what becomes of an edit in form, where a is the judgement of the edited document
module _ (buffer : List ℕ) (used : ℕ) (second : List ℕ) (counts : List ℤ) (a : Answer) (m : Made) (o : Outcome) (e : o ≡ outcome buffer used second counts (answered 0 a m)) where
  answer_done : (o.number ≡ 0) ↔ (a.0 ≡ 0)
  answer_done = go (eqb a.0 0) refl e
    where
      go : (b : Bool) → eqb a.0 0 ≡ b → o ≡ outcome buffer used second counts (cond b (done m) (refused a.0 a.1)) → (o.number ≡ 0) ↔ (a.0 ≡ 0)
      go true f e = (λ z. eqb-true a.0 0 f, λ z. cc)
      go false f e = (λ z. cc, λ z. absurd (eqb-false a.0 0 f z))

  answer_place : o.number ≢ 0 → (o.number, o.place) ≡ a
  answer_place n = go (eqb a.0 0) e
    where
      go : (b : Bool) → o ≡ outcome buffer used second counts (cond b (done m) (refused a.0 a.1)) → (o.number, o.place) ≡ a
      go true e = absurd (n (cc))
      go false e = rw e refl

-- ---- one edit

-- Judging from the expressions finds the valid documents.
module _ (s : Schema) (valid_iff : (buffer : List ℕ) (used : ℕ) → ((checking (of_schema s) buffer used).0 ≡ 0) ↔ ValidDocument s buffer used) where
  module _ (buffer : List ℕ) (used : ℕ) (v : ValidDocument s buffer used) (q : Request) (second : List ℕ) (counts : List ℤ)
      (t : TrueBeside s buffer used counts) (o : Outcome)
      (e : o ≡ outcome buffer used second counts (edit_by (of_schema s) buffer used q second counts)) where
    abbrev doc : List ℕ
    doc = take used buffer

    abbrev new : List ℕ
    new = edited q doc

    by_form : o ≡ outcome buffer used second counts (editing (of_schema s) (length buffer) (length second) q doc counts)
    unfolding edit_by
    by_form = rw v.shape at e

    no_fault : judge (of_schema s) whole (toks doc) ≡ none_found
    unfolding checking
    no_fault = judge_neat (of_schema s) whole (toks doc) (rw v.shape at ((valid_iff buffer used).1 v))

    -- "true counts never meet it"
    never : limit_fault (of_schema s).elements (length buffer) (length second) q doc counts ≡ size_fault (length buffer) (length second) q doc
    never = never_met (of_schema s).elements (length buffer) (length second) q doc counts t

    module _ (f : InForm buffer used q second) where
      asked : Asked (length buffer) q doc
      asked = (form_iff (length buffer) q doc).0 ((size_iff (length buffer) (length second) q doc).0 f).0

      new_shape : shape_of new (length new) ≡ true
      new_shape = asked_shape (of_schema s) (length buffer) q doc (shape_element buffer used v.shape) asked

      new_checked : checking (of_schema s) new (length new) ≡ judge (of_schema s) whole (toks new)
      unfolding checking
      new_checked = rw (new_shape, take-length new)

      answer : o ≡ outcome buffer used second counts (answered 0 (checking (of_schema s) new (length new)) (made (of_schema s).elements q doc counts))
      unfolding editing
      answer =
          by_form
          ∙ rw (never, f, new_checked, judged_whole (of_schema s) (length buffer) q doc (shape_element buffer used v.shape) asked no_fault)

      new_fits : length new ≤ length buffer
      new_fits = leb-true (length new) (length buffer) (and_right (leb (length new) most_tokens && shallow (toks new)) (leb (length new) (length buffer)) asked.size)

      exactly : (o.number ≡ 0) ↔ ValidDocument s new (length new)
      exactly =
          let d = answer_done buffer used second counts (checking (of_schema s) new (length new)) (made (of_schema s).elements q doc counts) o answer in
          let c = valid_iff new (length new) in
          (λ z. c.0 (d.0 z), λ w. d.1 (c.1 w))

    form_refused : ¬ InForm buffer used q second → (o.number ≡ size_fault (length buffer) (length second) q doc) × (o.place ≡ 0)
    unfolding editing
    form_refused n = go (size_fault (length buffer) (length second) q doc) refl (rw never at by_form)
      where
        go : (k : ℕ) → size_fault (length buffer) (length second) q doc ≡ k
            → o ≡ outcome buffer used second counts (answered k (judge (of_schema s) (touched_by q doc) (toks new)) (made (of_schema s).elements q doc counts))
            → (o.number ≡ k) × (o.place ≡ 0)
        go zero f e = absurd (n f)
        go (suc k) f e = (cc, cc)

    -- the document after the edit, where the edit is done as Left says, or kept
    still_valid : (o.number ≢ 0 → Kept buffer used second counts o) → (o.number ≡ 0 → Left (of_schema s).elements buffer used q second counts o) → ValidDocument s o.buffer o.used
    still_valid keeps leaves = elim (ℕ_discrete o.number 0) [
      | no n ↦ let (u, c, k, b, w, m) = keeps n in rw (u, b) v
      | yes z ↦ elim (ℕ_discrete (size_fault (length buffer) (length second) q doc) 0) [
        | yes f ↦
            let (p, u, c, b, k, w, m) = leaves z in
            rw (u, b) (written_valid buffer used new (shape_long buffer used v.shape) (new_fits f) s ((exactly f).0 z))
        | no n ↦ absurd (n (sym (form_refused n).0 ∙ z))
      ]
    ]

    -- "If the counts were true before, they are true after every edit, done or refused"
    still_true : (o.number ≢ 0 → Kept buffer used second counts o) → (o.number ≡ 0 → Left (of_schema s).elements buffer used q second counts o)
        → TrueBeside s o.buffer o.used o.counts
    still_true keeps leaves = elim (ℕ_discrete o.number 0) [
      | no n ↦ let (u, c, k, b, w, m) = keeps n in rw (u, b, m) t
      | yes z ↦
          let (p, u, c, b, k, w, m) = leaves z in
          rw (u, b, m, written_take buffer used new) (moved_true (of_schema s).elements q doc counts t)
    ]

    right : (o.number ≢ 0 → Kept buffer used second counts o) → (o.number ≡ 0 → Left (of_schema s).elements buffer used q second counts o) → Right s buffer used q second counts o
    right keeps leaves = record {
      done_exactly = exactly;
      number_place = λ f. answer_place buffer used second counts (checking (of_schema s) new (length new)) (made (of_schema s).elements q doc counts) o (answer f);
      not_in_form = form_refused;
      kept = keeps;
      left = leaves;
      valid_after = still_valid keeps leaves;
      true_after = still_true keeps leaves;
    }

  -- ---- the run

  pub run_right : (table : List ℕ) → Translated papers s table → (buffer : List ℕ) (used : ℕ) → ValidDocument s buffer used
      → (counts : List ℤ) → TrueBeside s buffer used counts → (l : List Step) → Runs papers table buffer used counts l → EachRight s buffer used counts l
  run_right table t buffer used v counts c [] r = tt
  run_right table t buffer used v counts c (x ∷ l) (p, r) =
      let q : Request = x.asked in
      let second : List ℕ = x.lent in
      let o : Outcome = x.came in
      let here : Right s buffer used q second counts o =
      right buffer used v q second counts c o (p ∙ edit_judged s table t buffer used q second counts) (edit_keeps table buffer used q second counts o p)
      (λ z. subst (λ (R : Rules). Left R.elements buffer used q second counts o) (table_reads s table t) (edit_leaves table buffer used q second counts o p z)) in
      (here, run_right table t o.buffer o.used here.valid_after o.counts here.true_after l r)
