-- Item 6, proved of the paper's calls: a list is its single calls, what was done stands, and demand 3. Assumes nothing.
use Rattle.std.specs.Prelude.{◌≡◌, ◌≢◌, ◌⊎◌, Bool, List, [], ◌∷◌, eqb, leb, ℤ, length, take}
use Rattle.std.proofs.Math.Path.{refl, ap}
use Rattle.std.proofs.Common.{sym, ◌∙◌, inl, inr, arith, add-zero, add-suc, suc-add, length-take}
use Rattle.std.proofs.Math.Bool.{true, false, cond}
use Prim.Native.Nat.{ℕ, zero, suc, ◌+◌, ◌≤◌, ◌<◌}
use Rattle.std.proofs.Math.Nat.{zero-add}
use borrow.Author.Tests.{eqb-true, eqb-false, le-leb}
use Rattle.std.proofs.Math.ListN.{length-replicate}
use Rattle.paper.specs.Basics.{most_back}
use Rattle.paper.specs.Schema.{Schema}
use Rattle.paper.specs.Shape.{shape_of}
use Rattle.paper.specs.Table.{proper}
use Rattle.paper.specs.Rules.{Rules, of_table}
use Rattle.paper.specs.Validity.{ValidDocument}
use Rattle.paper.specs.Back.{needs}
use Rattle.paper.specs.Edits.{Request, Outcome, Edited, refused, done, outcome, form_fault, or_next, size_fault, limit_fault, editing, edit_by, edit}
use Rattle.paper.specs.Lists as paper
use Rattle.paper.specs.Lists.{Split, fault, edits, split_list, list_numbers, Listed, run_list, lent_with, alone, next_edit, number_of, edit_list}
use Rattle.paper.specs.Program.{second}
use Rattle.paper.specs.Answers.{Answers, edit_answers}
use Rattle.back_laws.specs.Back.{needs_most}
use Rattle.back_laws.specs.Taken.{shape_document}
use Rattle.list_laws.specs.Exactly.{split_exactly, four_exactly, five_exactly, four_or_five}
use Rattle.list_laws.specs.Singles.{singles_done}
use Rattle.list_laws.specs.Listed.{singles as first_done, list_refused, list_is_singles, done_stands}
use Rattle.answer_laws.specs.Edit.{edit_answers_lem}
use Rattle.promises.specs.Calls.{papers}
use Rattle.promises.specs.Right.{Kept, TrueBeside, Step, EachRight}
use Rattle.promises.specs.Statements.{Runs}
use Rattle.promises.specs.Undo.{Roomy}
use Rattle.promises.proofs.Always.{edit_keeps}
use Rattle.promises.specs.Lists.{IsList, Broken, TooMany, ListForms, Steps, last_of, done_in, AsSingles, ListDeterminate, ListAnswers, ListFaults, ListIsSingles, ListStands}

-- ---- which lists are taken

pub forms : ListForms
forms list = go (split_list list) refl
  where
    go : (x : Split) → split_list list ≡ x → ((es : List Request) × IsList es list) ⊎ (Broken list ⊎ TooMany list)
    go (edits es) e = inl (es, (split_exactly list es).0 e)
    go (fault n) e = elim (four_or_five list n e) [
      | inl f ↦ inr (inl ((four_exactly list).0 (e ∙ ap fault f)))
      | inr f ↦ inr (inr ((five_exactly list).0 (e ∙ ap fault f)))
    ]

pub determinate : ListDeterminate papers
determinate i o p a b = a ∙ sym b

pub faults : ListFaults papers
faults table buffer used list counts o p =
    (λ b. p ∙ list_refused table buffer used counts list 4 ((four_exactly list).1 b), λ b. p ∙ list_refused table buffer used counts list 5 ((five_exactly list).1 b))

-- ---- the answers

next_answers : (table : List ℕ) (o : Outcome) (q : Request) → Answers edit_answers (next_edit table o q).number (next_edit table o q).place
next_answers table o q = edit_answers_lem table o.buffer o.used q second o.counts (edit table o.buffer o.used q second o.counts) refl

run_answers : (table : List ℕ) (es : List Request) (k : ℕ) (o : Outcome) → Answers edit_answers o.number o.place
    → let x : Listed Outcome = run_list (next_edit table) number_of k o es in Answers edit_answers x.last.number x.last.place
run_answers table [] k o a = a
run_answers table (q ∷ es) k o a = go (eqb (next_edit table o q).number 0) (run_answers table es (suc k) (next_edit table o q) (next_answers table o q))
  where
    go : (b : Bool) → (let y : Listed Outcome = run_list (next_edit table) number_of (suc k) (next_edit table o q) es in Answers edit_answers y.last.number y.last.place)
        → let x : Listed Outcome = cond b (run_list (next_edit table) number_of (suc k) (next_edit table o q) es) (record { last = next_edit table o q; done = k }) in
        Answers edit_answers x.last.number x.last.place
    go true h = h
    go false h = next_answers table o q

pub answers : ListAnswers papers
unfolding edit_list
answers table buffer used list counts o p = rw p (go (split_list list) refl)
  where
    go : (x : Split) → split_list list ≡ x
        → let y : Listed Outcome = paper.listed (next_edit table) number_of (lent_with buffer used counts) x in Answers edit_answers y.last.number y.last.place
    go (edits es) e = run_answers table es 0 (lent_with buffer used counts 0) (record { one_of = tt; no_place = λ n. refl })
    go (fault n) e = elim (four_or_five list n e) [
      | inl f ↦ rw f (record { one_of = tt; no_place = λ n. refl })
      | inr f ↦ rw f (record { one_of = tt; no_place = λ n. refl })
    ]

-- ---- a second buffer with room plays no part

module _ (table buffer : List ℕ) (used : ℕ) (q : Request) (counts : List ℤ) where
  abbrev doc : List ℕ
  doc = take used buffer

  size_same : (lent : List ℕ) → shape_of buffer used ≡ true → needs q doc ≤ length lent → size_fault (length buffer) (length lent) q doc ≡ size_fault (length buffer) most_back q doc
  unfolding size_fault
  size_same lent sh h = go (form_fault (length buffer) q doc) refl
    where
      go : (k : ℕ) → form_fault (length buffer) q doc ≡ k → or_next k (cond (leb (needs q doc) (length lent)) 0 5) ≡ or_next k (cond (leb (needs q doc) most_back) 0 5)
      go zero e =
          let most = needs_most (length buffer) q doc (shape_document buffer used sh) e in
          rw (le-leb (needs q doc) (length lent) h, le-leb (needs q doc) most_back (omega arith))
      go (suc k) e = refl

  alone_same : (lent : List ℕ) (x : Edited) → alone (outcome buffer used lent counts x) ≡ alone (outcome buffer used second counts x)
  alone_same lent (refused n p) = refl
  alone_same lent (done m) = refl

  by_same : (R : Rules) (lent : List ℕ) → needs q doc ≤ length lent → edit_by R buffer used q lent counts ≡ edit_by R buffer used q second counts
  unfolding edit_by editing limit_fault
  by_same R lent h = go (shape_of buffer used) refl
    where
      go : (b : Bool) → shape_of buffer used ≡ b
          → cond b (editing R (length buffer) (length lent) q doc counts) (refused 4 0) ≡ cond b (editing R (length buffer) (length second) q doc counts) (refused 4 0)
      go true e = rw (size_same lent e h, length-replicate {A = ℕ} most_back 0)
      go false e = refl

  pub lent_same : (lent : List ℕ) → needs q doc ≤ length lent → alone (edit table buffer used q lent counts) ≡ next_edit table (lent_with buffer used counts 0) q
  unfolding edit
  lent_same lent h =
      alone_same lent (cond (proper table) (edit_by (of_table table) buffer used q lent counts) (refused 13 0))
      ∙ ap (λ x. alone (outcome buffer used second counts (cond (proper table) x (refused 13 0)))) (by_same (of_table table) lent h)

-- ---- the single calls

-- each call comes to what the list's edit comes to
abbrev Alike : (table : List ℕ) → Outcome → List Step → Type 0
Alike table o [] = Unit {0}
Alike table o (x ∷ l) = (alone x.came ≡ next_edit table o x.asked) × Alike table x.came l

alike_run : (table : List ℕ) (l : List Step) (o : Outcome) → Runs papers table o.buffer o.used o.counts l → Roomy o.buffer o.used l → Alike table o l
alike_run table [] o r m = tt
alike_run table (x ∷ l) o (p, r) (h, m) = (ap alone p ∙ lent_same table o.buffer o.used x.asked o.counts x.lent h, alike_run table l x.came r m)

module _ (table : List ℕ) where
  abbrev runs : ℕ → Outcome → List Request → Listed Outcome
  runs = run_list (next_edit table) number_of

  run_steps : (es : List Request) (l : List Step) (k : ℕ) (o : Outcome) → Steps es l → Alike table o l
      → runs k (alone o) es ≡ record { last = alone (last_of o l); done = k + done_in l }
  run_steps [] l k o s a = rw s (ap (λ n. record { last = alone o; done = n }) (sym (add-zero k)))
  run_steps (q ∷ es) [] k o s a = absurd s
  run_steps (q ∷ es) (x ∷ l) k o (sq, sd, sr) (e, a) =
      rw (← sq, ← e) (go (λ t. run_steps es l (suc k) x.came t a) (eqb x.came.number 0) refl)
    where
      go : (Steps es l → runs (suc k) (alone x.came) es ≡ record { last = alone (last_of x.came l); done = suc k + done_in l })
          → (b : Bool) → eqb x.came.number 0 ≡ b
          → cond b (runs (suc k) (alone x.came) es) (record { last = alone x.came; done = k })
          ≡ record { last = alone (last_of x.came l); done = k + cond b (suc (done_in l)) (done_in l) }
      go h true f =
          h (sd (eqb-true x.came.number 0 f))
          ∙ ap (λ n. record { last = alone (last_of x.came l); done = n }) (suc-add k (done_in l) ∙ sym (add-suc k (done_in l)))
      go h false f =
          rw (sr (eqb-false x.came.number 0 f)) (ap (λ n. record { last = alone x.came; done = n }) (sym (add-zero k)))

  -- a list comes to what such calls come to
  by_steps : (buffer : List ℕ) (used : ℕ) (counts : List ℤ) (list : List ℕ) (es : List Request) → IsList es list → (l : List Step) → Steps es l → Alike table (lent_with buffer used counts 0) l
      → AsSingles buffer used counts (edit_list table buffer used list counts) l
  unfolding edit_list
  by_steps buffer used counts list es i l s a =
      let e = run_steps es l 0 (lent_with buffer used counts 0) s a in
      rw ((split_exactly list es).1 i, e) (refl, zero-add (done_in l))

pub singles : ListIsSingles papers
singles table buffer used list counts o p es i l r s m =
    rw p (by_steps table buffer used counts list es i l s (alike_run table l (lent_with buffer used counts 0) r m))

-- ---- what was done before stands

next_keeps : (table : List ℕ) (o : Outcome) (q : Request) → (next_edit table o q).number ≢ 0 → Kept o.buffer o.used [] o.counts (next_edit table o q)
next_keeps table o q n =
    let (u, c, k, b, w, m) = edit_keeps table o.buffer o.used q second o.counts (edit table o.buffer o.used q second o.counts) refl n in
    (u, c, k, b, refl, m)

some_taken : (n : ℕ) (es : List Request) → 1 ≤ length es → 0 < n → 1 ≤ length (take n es)
some_taken zero es h k = absurd (omega arith)
some_taken (suc n) [] h k = h
some_taken (suc n) (q ∷ es) h k = omega arith

module _ (table buffer : List ℕ) (used : ℕ) (counts : List ℤ) (list : List ℕ) (es : List Request) (i : IsList es list) where
  abbrev all : Listed Outcome
  all = edit_list table buffer used list counts

  module _ (n : all.last.number ≢ 0) where
    keep : let front : Outcome = (first_done table buffer used counts (take all.done es)).last in Kept front.buffer front.used [] front.counts all.last
    keep = done_stands table buffer used counts list (λ x y. Kept x.buffer x.used [] x.counts y) (next_keeps table) es ((split_exactly list es).1 i) n

    none_stands : all.done ≡ 0 → Kept buffer used [] counts all.last
    none_stands z = let k : take all.done es ≡ [] = ap (λ n. take n es) z in rw k at keep

    own : ((first_done table buffer used counts (take all.done es)).last.number ≡ 0) × ((first_done table buffer used counts (take all.done es)).done ≡ all.done)
    own = rw (list_is_singles table buffer used counts list es ((split_exactly list es).1 i)) (singles_done (next_edit table) number_of es (lent_with buffer used counts 0) refl)

    some_stand : (p : Listed Outcome) → p ≡ edit_list table buffer used (list_numbers (take all.done es)) counts → 0 < all.done
        → (p.last.number ≡ 0) × (p.done ≡ all.done) × Kept p.last.buffer p.last.used [] p.last.counts all.last
    some_stand p e h =
        let front : List Request = take all.done es in
        let is : split_list (list_numbers front) ≡ edits front =
        (split_exactly (list_numbers front) front).1 (refl, some_taken all.done es i.1 h, omega (arith, length-take all.done es, i.2)) in
        rw (e ∙ list_is_singles table buffer used counts (list_numbers front) front is) (own.0, own.1, keep)

pub stands : ListStands papers
stands table buffer used list counts o p es i = rw p (λ n. (none_stands table buffer used counts list es i n, some_stand table buffer used counts list es i n))

-- ---- demand 3

module _ (table : List ℕ) where
  -- the single calls, each lent a second buffer in which any inverse has room
  abbrev step : Outcome → Request → Step
  step o q = record { asked = q; lent = second; came = edit table o.buffer o.used q second o.counts }

  abbrev steps_of : Outcome → List Request → List Step
  steps_of o [] = []
  steps_of o (q ∷ es) = step o q ∷ cond (eqb (step o q).came.number 0) (steps_of (step o q).came es) []

  steps_run : (es : List Request) (o : Outcome) → Runs papers table o.buffer o.used o.counts (steps_of o es)
  steps_run [] o = tt
  steps_run (q ∷ es) o = (refl, go (eqb (step o q).came.number 0) (steps_run es (step o q).came))
    where
      go : (b : Bool) → Runs papers table (step o q).came.buffer (step o q).came.used (step o q).came.counts (steps_of (step o q).came es)
          → Runs papers table (step o q).came.buffer (step o q).came.used (step o q).came.counts (cond b (steps_of (step o q).came es) [])
      go true r = r
      go false r = tt

  steps_are : (es : List Request) (o : Outcome) → Steps es (steps_of o es)
  steps_are [] o = refl
  steps_are (q ∷ es) o = go (eqb (step o q).came.number 0) refl (steps_are es (step o q).came)
    where
      go : (b : Bool) → eqb (step o q).came.number 0 ≡ b → Steps es (steps_of (step o q).came es) → Steps (q ∷ es) (step o q ∷ cond b (steps_of (step o q).came es) [])
      go true e s = (refl, λ z. s, λ n. absurd (n (eqb-true (step o q).came.number 0 e)))
      go false e s = (refl, λ z. absurd (eqb-false (step o q).came.number 0 e z), λ n. refl)

  steps_alike : (es : List Request) (o : Outcome) → Alike table o (steps_of o es)
  steps_alike [] o = tt
  steps_alike (q ∷ es) o = (refl, go (eqb (step o q).came.number 0) (steps_alike es (step o q).came))
    where
      go : (b : Bool) → Alike table (step o q).came (steps_of (step o q).came es) → Alike table (step o q).came (cond b (steps_of (step o q).came es) [])
      go true a = a
      go false a = tt

last_valid : (s : Schema) (l : List Step) (o : Outcome) → ValidDocument s o.buffer o.used → TrueBeside s o.buffer o.used o.counts
    → EachRight s o.buffer o.used o.counts l
    → let u : Outcome = last_of o l in ValidDocument s u.buffer u.used × TrueBeside s u.buffer u.used u.counts
last_valid s [] o v c r = (v, c)
last_valid s (x ∷ l) o v c (h, r) = last_valid s l x.came h.valid_after h.true_after r

pub right : (s : Schema) (table buffer : List ℕ) (used : ℕ) → ValidDocument s buffer used → (counts : List ℤ) → TrueBeside s buffer used counts
    → ((l : List Step) → Runs papers table buffer used counts l → EachRight s buffer used counts l)
    → (list : List ℕ) (o : Listed Outcome) → o ≡ edit_list table buffer used list counts → (es : List Request) → IsList es list
    → ((l : List Step) × Steps es l × EachRight s buffer used counts l × AsSingles buffer used counts o l) × ValidDocument s o.last.buffer o.last.used
    × TrueBeside s o.last.buffer o.last.used o.last.counts
right s table buffer used v counts c each list o p es i =
    let lent : Outcome = lent_with buffer used counts 0 in
    let l : List Step = steps_of table lent es in
    let r : EachRight s buffer used counts l = each l (steps_run table es lent) in
    let a : AsSingles buffer used counts o l = rw p (by_steps table buffer used counts list es i l (steps_are table es lent) (steps_alike table es lent)) in
    let (w, d) = last_valid s l lent v c r in
    ((l, steps_are table es lent, r, a), rw a.0 w, rw a.0 d)
