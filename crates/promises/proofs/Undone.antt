-- Step back, proved: the second buffer's room and what is written into it; undo is always done; a whole run back ends at the first document.
-- Assumes nothing.
use Rattle.std.specs.Prelude.{◌≡◌, refl, ◌≢◌, Bool, true, false, cond, List, [], ◌∷◌, ◌++◌, ℕ, zero, suc, ◌-◌, ◌≤◌, ◌<◌, max, ltb, eqb, ℤ, length, take, drop, replicate}
use Rattle.std.proofs.Common.{sym, ap, ap₂, ◌∙◌, inl, inr, arith, ltb-true, ltb-false}
use Rattle.std.proofs.Math.Decide.{ℕ_discrete}
use Rattle.paper.specs.Basics.{all}
use Rattle.paper.specs.Schema.{Schema}
use Rattle.paper.specs.Tokens.{toks}
use Rattle.paper.specs.Rules.{of_schema, of_table}
use Rattle.paper.specs.Judgement.{Answer, judge}
use Rattle.paper.specs.Validity.{ValidDocument}
use Rattle.paper.specs.Requests.{Request, edited, touched_by}
use Rattle.paper.specs.Back.{inverse, needs, edit_in}
use Rattle.paper.specs.Counts.{fresh, moved, count_good}
use Rattle.paper.specs.Edits.{Outcome, Made, made, refused, done, form_fault, size_fault, limit_fault, answered, editing, written, outcome, edit_by, edit}
use Rattle.answer_laws.specs.Judged.{Judged, judge_judged}
use Rattle.back_laws.specs.Written.{read_back, noted_length}
use Rattle.back_laws.specs.Taken.{Document, shape_document}
use Rattle.back_laws.specs.Back.{needs_most, gives_back, new_fits, back_in_form}
use Rattle.back_laws.specs.Sizes.{size_form, size_short, size_iff}
use Rattle.count_laws.specs.Limits.{limit_size, limit_counts, limit_iff}
use Rattle.promises.specs.Calls.{Calls, papers}
use Rattle.promises.specs.Right.{TrueBeside, Right, Step}
use Rattle.promises.specs.Statements.{Runs}
use Rattle.shape_laws.specs.Written.{written_take, written_length}
use Rattle.promises.proofs.Written.{written_back, held_long, held_length, valid_alone}
use Rattle.promises.proofs.Always.{edit_leaves}
use Rattle.promises.proofs.OnTree.{done_form}
use Rattle.promises.specs.Undo.{leaves, AllDone, EndsAt, Roomy, asked_in, inverses_in, NeedsMost, EditSecond, BackReads}

-- ---- the second buffer

pub most : NeedsMost
most buffer used room q sh f = needs_most room q (take used buffer) (shape_document buffer used sh) f

-- the number of an edit that has one before it is judged
early : (buffer : List ℕ) (used : ℕ) (second : List ℕ) (counts : List ℤ) (a : Answer) (m : Made) (k : ℕ) → k ≢ 0 → (outcome buffer used second counts (answered k a m)).number ≡ k
early buffer used second counts a m zero h = absurd (h refl)
early buffer used second counts a m (suc k) h = refl

-- no judgement gives 5
never_5 : (buffer : List ℕ) (used : ℕ) (second : List ℕ) (counts : List ℤ) (a : Answer) (m : Made) → Judged a → (outcome buffer used second counts (answered 0 a m)).number ≢ 5
never_5 buffer used second counts a m (inl e) z = let y : ◌≡◌ {A = ℕ} 0 5 = rw e at z in absurd (omega arith)
never_5 buffer used second counts a m (inr j) z = go (eqb a.0 0) z
  where
    go : (b : Bool) → (outcome buffer used second counts (cond b (done m) (refused a.0 a.1))).number ≡ 5 → ⊥
    go true z = absurd (omega arith)
    go false z = rw z at j

pub edit_second : EditSecond papers
unfolding edit edit_by editing
edit_second table buffer used q second counts o e p sh =
    let doc : List ℕ = take used buffer in
    let E : ℕ = (of_table table).elements in
    let a : Answer = judge (of_table table) (touched_by q doc) (toks (edited q doc)) in
    let m : Made = made E q doc counts in
    let k : ℕ = size_fault (length buffer) (length second) q doc in
    let number : o.number ≡ (outcome buffer used second counts (answered (limit_fault E (length buffer) (length second) q doc counts) a m)).number
    = ap (λ (x : Outcome). x.number) (rw (p, sh) at e) in
    let before : k ≢ 0 → o.number ≡ k
    = λ h. number ∙ ap (λ n. (outcome buffer used second counts (answered n a m)).number) (limit_size E (length buffer) (length second) q doc counts h)
    ∙ early buffer used second counts a m k h in (
      λ n. let s = size_form (length buffer) (length second) q doc n in before (λ z. n (sym s ∙ z)) ∙ s,
      λ f. (
        λ five. by_room f (ltb (length second) (needs q doc)) refl number five,
        λ h. let s = size_short (length buffer) (length second) q doc f h in before (λ z. absurd (omega arith)) ∙ s,
      ),
    )
  where
    by_room : form_fault (length buffer) q (take used buffer) ≡ 0 → (b : Bool) → ltb (length second) (needs q (take used buffer)) ≡ b
        → o.number ≡ (outcome buffer used second counts (answered (limit_fault (of_table table).elements (length buffer) (length second) q (take used buffer) counts)
        (judge (of_table table) (touched_by q (take used buffer)) (toks (edited q (take used buffer)))) (made (of_table table).elements q (take used buffer) counts))).number
        → o.number ≡ 5 → length second < needs q (take used buffer)
    by_room f true t number five = ltb-true (length second) (needs q (take used buffer)) t
    by_room f false t number five =
        let doc : List ℕ = take used buffer in
        let E : ℕ = (of_table table).elements in
        let a : Answer = judge (of_table table) (touched_by q doc) (toks (edited q doc)) in
        let room = ltb-false (length second) (needs q doc) t in
        let z = (size_iff (length buffer) (length second) q doc).1 (f, omega arith) in
        by_counts z (all count_good (moved E q doc counts)) refl
      where
        by_counts : size_fault (length buffer) (length second) q (take used buffer) ≡ 0
            → (g : Bool) → all count_good (moved (of_table table).elements q (take used buffer) counts) ≡ g → length second < needs q (take used buffer)
        by_counts z true g =
            let doc : List ℕ = take used buffer in
            let E : ℕ = (of_table table).elements in
            let l = (limit_iff E (length buffer) (length second) q doc counts).1 (z, g) in
            absurd (never_5 buffer used second counts (judge (of_table table) (touched_by q doc) (toks (edited q doc))) (made E q doc counts)
            (judge_judged (of_table table) (touched_by q doc) (toks (edited q doc))) (sym (rw l at number) ∙ five))
        by_counts z false g =
            let doc : List ℕ = take used buffer in
            let l = limit_counts (of_table table).elements (length buffer) (length second) q doc counts z g in
            let n : o.number ≡ 15 = rw l at number in absurd (omega arith)

pub reads : BackReads papers
reads table buffer used q second counts o e z =
    let (sh, f, r) = done_form table buffer used q second counts o e z in
    let b = (edit_leaves table buffer used q second counts o e z).5 in
    (ap edit_in b ∙ read_back second (inverse q (take used buffer)), ap length b ∙ noted_length second (inverse q (take used buffer)) r)

-- ---- undo: from any rights of one edit

module _ (calls : Calls) (s : Schema) (table : List ℕ)
    (right : (buffer : List ℕ) (used : ℕ) → ValidDocument s buffer used → (q : Request) (second : List ℕ) (counts : List ℤ)
    → TrueBeside s buffer used counts → (o : Outcome) → calls.Performs table buffer used q second counts o → Right s buffer used q second counts o) where
  -- a done edit of a valid document
  module _ (buffer : List ℕ) (used : ℕ) (v : ValidDocument s buffer used) (q : Request) (second : List ℕ) (counts : List ℤ)
      (c : TrueBeside s buffer used counts) (o : Outcome) (p : calls.Performs table buffer used q second counts o) (z : o.number ≡ 0) where
    abbrev doc : List ℕ
    doc = take used buffer

    document : Document doc
    document = shape_document buffer used v.shape

    in_form : form_fault (length buffer) q doc ≡ 0
    in_form = elim (ℕ_discrete (size_fault (length buffer) (length second) q doc) 0) [
      | yes f ↦ ((size_iff (length buffer) (length second) q doc).0 f).0
      | no n ↦ absurd (n (sym ((right buffer used v q second counts c o p).not_in_form n).0 ∙ z))
    ]

    still_valid : ValidDocument s o.buffer o.used
    still_valid = (right buffer used v q second counts c o p).valid_after

    still_true : TrueBeside s o.buffer o.used o.counts
    still_true = (right buffer used v q second counts c o p).true_after

    new_document : take o.used o.buffer ≡ edited q doc
    new_document = let (_, u, _, b, _, _, _) = (right buffer used v q second counts c o p).left z in ap₂ take u b ∙ written_take buffer used (edited q doc)

    same_room : length o.buffer ≡ length buffer
    same_room =
        let (_, _, _, b, _, _, _) = (right buffer used v q second counts c o p).left z in
        ap length b ∙ written_length buffer used (edited q doc) (held_long s buffer used v) (new_fits (length buffer) q doc document in_form)

    its_inverse : edit_in o.back ≡ inverse q doc
    its_inverse = let (_, _, _, _, _, w, _) = (right buffer used v q second counts c o p).left z in ap edit_in w ∙ read_back second (inverse q doc)

    -- its inverse x, in any buffer as long that holds what it made
    module _ (there : List ℕ) (now : ℕ) (w : ValidDocument s there now) (same : take now there ≡ take o.used o.buffer) (room : length there ≡ length buffer)
        (lent : List ℕ) (those : List ℤ) (d : TrueBeside s there now those) (u : Outcome) (r : calls.Performs table there now (edit_in o.back) lent those u)
        (h : needs (edit_in o.back) (take now there) ≤ length lent) where
      gives : edited (edit_in o.back) (take now there) ≡ doc
      gives = rw (its_inverse, same, new_document) (gives_back (length buffer) q doc document in_form)

      form : form_fault (length there) (edit_in o.back) (take now there) ≡ 0
      form =
          rw (its_inverse, same, new_document, room)
          (back_in_form (length buffer) q doc document in_form (omega (arith, held_long s buffer used v, held_length s buffer used v)))

      undone : (u.number ≡ 0) × (u.used ≡ used) × (take u.used u.buffer ≡ doc) × (u.buffer ≡ written there now doc) × (u.counts ≡ counts)
      undone =
          let back = right there now w (edit_in o.back) lent those d u r in
          let z : u.number ≡ 0 = (back.done_exactly ((size_iff (length there) (length lent) (edit_in o.back) (take now there)).1 (form, h))).1
          (rw gives (valid_alone s buffer used v)) in
          let (_, n, _, b, _, _, _) = back.left z in
          let same : take u.used u.buffer ≡ doc = ap₂ take n b ∙ written_take there now (edited (edit_in o.back) (take now there)) ∙ gives in (
            z,
            n ∙ ap length gives ∙ held_length s buffer used v,
            same,
            b ∙ ap (written there now) gives,
            back.true_after ∙ ap (λ l. fresh (of_schema s).elements (toks l)) same ∙ sym c,
          )

  -- ---- one step back, and forth again

  module _ (buffer : List ℕ) (used : ℕ) (v : ValidDocument s buffer used) (q : Request) (second : List ℕ) (counts : List ℤ)
      (c : TrueBeside s buffer used counts) (o : Outcome) (p : calls.Performs table buffer used q second counts o) (z : o.number ≡ 0)
      (lent : List ℕ) (u : Outcome) (r : calls.Performs table o.buffer o.used (edit_in o.back) lent o.counts u)
      (h : needs (edit_in o.back) (take o.used o.buffer) ≤ length lent) where
    pub undo : (u.number ≡ 0) × (u.used ≡ used) × (take u.used u.buffer ≡ take used buffer)
        × (u.buffer ≡ take used buffer ++ (replicate (o.used - used) 0 ++ drop (max used o.used) buffer)) × (u.counts ≡ counts)
    undo =
        let (d, n, t, b, m) = undone buffer used v q second counts c o p z o.buffer o.used (still_valid buffer used v q second counts c o p z) refl
        (same_room buffer used v q second counts c o p z) lent o.counts (still_true buffer used v q second counts c o p z) u r h in
        let (_, k, _, w, _, _, _) = (right buffer used v q second counts c o p).left z in
        (d, n, t, b ∙ rw (k, w) (written_back buffer used (edited q (take used buffer)) (take used buffer) (held_length s buffer used v)), m)

    pub redo : (third : List ℕ) (again : Outcome) → calls.Performs table u.buffer u.used (edit_in u.back) third u.counts again
        → needs (edit_in u.back) (take u.used u.buffer) ≤ length third
        → (again.number ≡ 0) × (again.used ≡ o.used) × (take again.used again.buffer ≡ take o.used o.buffer) × (again.counts ≡ o.counts)
    redo third again a k =
        let w = still_valid buffer used v q second counts c o p z in
        let m = still_true buffer used v q second counts c o p z in
        let x : Request = edit_in o.back in
        let (d, n, t, b, e) = undone o.buffer o.used w x lent o.counts m u r undo.0 u.buffer u.used
        (still_valid o.buffer o.used w x lent o.counts m u r undo.0) refl (same_room o.buffer o.used w x lent o.counts m u r undo.0)
        third u.counts (still_true o.buffer o.used w x lent o.counts m u r undo.0) again a k in
        (d, n, t, e)

  -- ---- a run

  -- a run that asks for l and then for one more
  split_last : (m : List Step) (l : List Request) (q : Request) → asked_in m ≡ l ++ (q ∷ [])
      → (n : List Step) × (x : Step) × (m ≡ n ++ (x ∷ [])) × (asked_in n ≡ l) × (x.asked ≡ q)
  split_last [] [] q e = let z : ◌≡◌ {A = ℕ} 0 1 = cc in absurd (omega arith)
  split_last [] (y ∷ l) q e = let z : ◌≡◌ {A = ℕ} 0 1 = cc in absurd (omega arith)
  split_last (x ∷ m) [] q e = go m e
    where
      go : (m : List Step) → x.asked ∷ asked_in m ≡ q ∷ [] → (n : List Step) × (y : Step) × (x ∷ m ≡ n ++ (y ∷ [])) × (asked_in n ≡ []) × (y.asked ≡ q)
      go [] e = ([], x, refl, refl, cc)
      go (y ∷ m) e = let z : ◌≡◌ {A = ℕ} 0 1 = cc in absurd (omega arith)
  split_last (x ∷ m) (y ∷ l) q e = more (split_last m l q (cc))
    where
      more : (n : List Step) × (w : Step) × (m ≡ n ++ (w ∷ [])) × (asked_in n ≡ l) × (w.asked ≡ q)
          → (n : List Step) × (w : Step) × (x ∷ m ≡ n ++ (w ∷ [])) × (asked_in n ≡ y ∷ l) × (w.asked ≡ q)
      more (n, w, f, g, h) = let first : x.asked ≡ y = cc in (x ∷ n, w, ap (λ z. x ∷ z) f, ap₂ (λ a b. a ∷ b) first g, h)

  runs_append : (buffer : List ℕ) (used : ℕ) (counts : List ℤ) (l m : List Step) → Runs calls table buffer used counts (l ++ m)
      → let (there, now, those) = leaves buffer used counts l in Runs calls table buffer used counts l × Runs calls table there now those m
  runs_append buffer used counts [] m r = (tt, r)
  runs_append buffer used counts (x ∷ l) m (p, r) = let (a, b) = runs_append x.came.buffer x.came.used x.came.counts l m r in ((p, a), b)

  roomy_append : (buffer : List ℕ) (used : ℕ) (counts : List ℤ) (l m : List Step) → Roomy buffer used (l ++ m)
      → let (there, now, those) = leaves buffer used counts l in Roomy buffer used l × Roomy there now m
  roomy_append buffer used counts [] m r = (tt, r)
  roomy_append buffer used counts (x ∷ l) m (p, r) = let (a, b) = roomy_append x.came.buffer x.came.used x.came.counts l m r in ((p, a), b)

  -- a run of done edits leaves a valid document, in a buffer as long, and true counts
  run_valid : (buffer : List ℕ) (used : ℕ) → ValidDocument s buffer used → (counts : List ℤ) → TrueBeside s buffer used counts
      → (l : List Step) → Runs calls table buffer used counts l → AllDone l
      → let (there, now, those) = leaves buffer used counts l in ValidDocument s there now × (length there ≡ length buffer) × TrueBeside s there now those
  run_valid buffer used v counts c [] r k = (v, refl, c)
  run_valid buffer used v counts c (x ∷ l) (p, r) (z, k) =
      let (w, e, d) = run_valid x.came.buffer x.came.used (still_valid buffer used v x.asked x.lent counts c x.came p z)
      x.came.counts (still_true buffer used v x.asked x.lent counts c x.came p z) l r k in
      (w, e ∙ same_room buffer used v x.asked x.lent counts c x.came p z, d)

  leaves_last : (buffer : List ℕ) (used : ℕ) (counts : List ℤ) (l : List Step) (x : Step)
      → leaves buffer used counts (l ++ (x ∷ [])) ≡ (x.came.buffer, x.came.used, x.came.counts)
  leaves_last buffer used counts [] x = refl
  leaves_last buffer used counts (y ∷ l) x = leaves_last y.came.buffer y.came.used y.came.counts l x

  done_last : (l : List Step) (x : Step) → AllDone l → x.came.number ≡ 0 → AllDone (l ++ (x ∷ []))
  done_last [] x k z = (z, tt)
  done_last (y ∷ l) x (f, k) z = (f, done_last l x k z)

  -- the inverse of the first edit, after a run back to what that edit made
  first_back : (buffer : List ℕ) (used : ℕ) (v : ValidDocument s buffer used) (counts : List ℤ) (c : TrueBeside s buffer used counts)
      → (x : Step) (p : calls.Performs table buffer used x.asked x.lent counts x.came) → x.came.number ≡ 0
      → (there : List ℕ) (now : ℕ) → ValidDocument s there now → length there ≡ length buffer → (those : List ℤ) → TrueBeside s there now those
      → (n : List Step) (y : Step) → y.asked ≡ edit_in x.came.back → Runs calls table there now those (n ++ (y ∷ [])) → Roomy there now (n ++ (y ∷ []))
      → EndsAt there now those n x.came.buffer x.came.used x.came.counts
      → EndsAt there now those (n ++ (y ∷ [])) buffer used counts
  first_back buffer used v counts c x p z there now w room those d n y ey g h (kn, un, same, _) =
      let (gn, (gy, _)) = runs_append there now those n (y ∷ []) g in
      let (hn, (hy, _)) = roomy_append there now those n (y ∷ []) h in
      let (vn, rn, dn) = run_valid there now w those d n gn kn in
      let end : List ℕ × ℕ × List ℤ = leaves there now those n in
      let (f, long, t, b, m) =
      undone buffer used v x.asked x.lent counts c x.came p z end.0 end.1 vn same (rn ∙ room) y.lent end.2 dn y.came
      (rw ey at gy) (rw ey at hy) in
      rw (leaves_last there now those n y) (done_last n y kn f, long, t, m)

  pub run_back : (buffer : List ℕ) (used : ℕ) → ValidDocument s buffer used → (counts : List ℤ) → TrueBeside s buffer used counts
      → (l : List Step) → Runs calls table buffer used counts l → AllDone l
      → let (there, now, those) = leaves buffer used counts l in
      (m : List Step) → asked_in m ≡ inverses_in l → Runs calls table there now those m → Roomy there now m
      → EndsAt there now those m buffer used counts
  run_back buffer used v counts c [] r k [] e g h = (tt, refl, refl, refl)
  run_back buffer used v counts c [] r k (x ∷ m) e g h = let z : ◌≡◌ {A = ℕ} 0 1 = cc in absurd (omega arith)
  run_back buffer used v counts c (x ∷ l) (p, r) (z, k) m e g h =
      let b : List ℕ = x.came.buffer in
      let u : ℕ = x.came.used in
      let w : ValidDocument s b u = still_valid buffer used v x.asked x.lent counts c x.came p z in
      let d : TrueBeside s b u x.came.counts = still_true buffer used v x.asked x.lent counts c x.came p z in
      let end : List ℕ × ℕ × List ℤ = leaves b u x.came.counts l in
      let (vl, rl, dl) = run_valid b u w x.came.counts d l r k in
      let (n, y, f, i, ey) = split_last m (inverses_in l) (edit_in x.came.back) e in
      let gn = rw f at g in
      let hn = rw f at h in
      rw f
      (first_back buffer used v counts c x p z end.0 end.1 vl (rl ∙ same_room buffer used v x.asked x.lent counts c x.came p z) end.2 dl n y ey gn hn
      (run_back b u w x.came.counts d l r k n i (runs_append end.0 end.1 end.2 n (y ∷ []) gn).0 (roomy_append end.0 end.1 end.2 n (y ∷ []) hn).0))
