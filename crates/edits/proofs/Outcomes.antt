-- An edit's answer and what it leaves are the paper's outcome: laws of an edit in form, and of each way out. Assumes nothing.
use Rattle.std.specs.Prelude.{◌≡◌, refl, Bool, true, false, not, ◌&&◌, leb, ℤ, pos}
use Rattle.std.proofs.Math.Path.{sym, ap, ap₂, subst}
use Rattle.std.proofs.Common.{◌∙◌}
use Rattle.std.proofs.Math.Bool.{and-eq-true_iff}
use mathlib.Core.List.{List, map}
use Prim.Native.Nat.{ℕ, zero, suc, ◌+◌, ◌-◌, ◌≤◌, ◌<◌}
use native.Mathlib.Omega.{arith}
use borrow.Author.Tests.{leb-true, ne_eqb, not-true, not-false}
use Rattle.std.proofs.Math.ListN.{length, take, drop, length-take}
use Rattle.std.proofs.Math.Seq.{take-take, length-take-le}
use Rattle.paper.specs.Basics.{most_tokens, all}
use Rattle.paper.specs.Tokens.{toks, touched}
use Rattle.paper.specs.Shape.{shallow, shape_of}
use Rattle.paper.specs.Table.{proper}
use Rattle.paper.specs.Rules.{of_table}
use Rattle.paper.specs.Judgement.{judge}
use Rattle.paper.specs.Judgement as judgement
use Rattle.paper.specs.Requests.{Request, splice_at, splice_cut, coming, edited, touched_by}
use Rattle.paper.specs.Back.{went, inverse, needs, noted}
use Rattle.paper.specs.Counts.{moved_from, moved, count_good}
use Rattle.paper.specs.Edits.{children_of, looked_at, Made, made, Edited, refused, done, form_fault, size_fault, limit_fault, answered, editing, Outcome, written, outcome, edit_by, edit}
use Rattle.shape_laws.specs.EditJudged.{Asked, form_iff, allowed_by, coming_toks}
use Rattle.shape_laws.proofs.EditLooked.{piece_comes}
use Rattle.shape_laws.specs.Widths.{Comes}
use Rattle.edits.specs.declared.Answer.{Answer}
use Rattle.paper.specs.declared.Fault.{Fault}
use Rattle.paper.specs.Codes.{number_of}
use Rattle.paper_laws.specs.Codes.{refused as refused_number}
use Rattle.form.specs.declared.Form.{Form}
use Rattle.form.specs.Size.{size_is}
use Rattle.shape_laws.specs.Shaped.{shaped}
use Rattle.back_laws.specs.Taken.{shape_document}
use Rattle.back_laws.specs.Sizes.{size_form, size_short, size_iff}
use Rattle.count_laws.specs.Limits.{limit_size, limit_counts, limit_iff}
use Rattle.counts.specs.Moved.{few, numbers_good}
use Rattle.back.specs.Noted.{count_by, Cuts, cuts, count_few, need_is}
use Rattle.shape_laws.specs.Five.{allowed_within}
use Rattle.paper.specs.declared.Refusal.{Refusal}
use Rattle.form.specs.Form.{InForm}
use Rattle.splicing.specs.Splicing.{drop_take}
use Rattle.written.specs.Written.{splice_front, splice_piece}
use Rattle.shape_laws.specs.Bridge.{length_toks, toks_drop}
use Rattle.edits.specs.Outcomes.{outcome_of, refusal, done_with}

-- ---- what holds of an edit in form

pub record Ready (q : Request) (buf : List ℕ) (used : ℕ) (r : Form) (after : List ℕ) : Type 0 where
  pub old : used ≤ most_tokens
  pub few : r.used ≤ most_tokens
  pub room : r.used ≤ length buf
  pub long : r.used ≤ length after
  pub within : r.at + r.coming ≤ r.used
  pub front : take r.at (take r.used after) ≡ take r.at buf
  pub comes : Comes (drop r.at (toks (take (r.at + r.coming) after)))
  pub under : r.used ≤ used + r.coming
  pub cut : Cuts q (take used buf) r.at (used + r.coming - r.used)
  -- what goes, and what comes
  pub gone : take (used + r.coming - r.used) (drop r.at buf) ≡ went q (take used buf)
  pub come : take r.coming (drop r.at after) ≡ coming q.operation q.piece
  pub inner : r.at + (used + r.coming - r.used) ≤ used

module _ (op place : ℕ) (piece buf : List ℕ) (used : ℕ) where
  abbrev q : Request
  q = record { operation = op; place = place; piece = piece }

  form_ready : {r : Form} {after : List ℕ} → shape_of buf used ≡ true → InForm (length buf) q (take used buf) after r → Ready q buf used r after
  unfolding edited went
  form_ready {r} {after} sh f =
      let s = shaped buf used sh in
      let a : Asked (length buf) q (take used buf) = (form_iff (length buf) q (take used buf)).0 f.none in
      let new : List ℕ = edited q (take used buf) in
      let at : ℕ = splice_at op place (toks piece) (toks (take used buf)) in
      let cut : ℕ = splice_cut op place (toks piece) (toks (take used buf)) in
      let inner : at + cut ≤ length (toks (take used buf)) = allowed_within (toks (take used buf)) s.one
      (allowed_by (toks (take used buf)) (toks piece) s.one op place a.operation a.piece a.place) in
      let u : length (toks (take used buf)) ≡ used = length_toks buf used s.long in
      let w : length (take used buf) ≡ used = length-take-le used buf s.long in
      let size : length new ≡ used - cut + length (coming op piece)
      = size_is (take used buf) at cut (coming op piece) (omega (arith, inner, u, w)) ∙ ap (λ k. k - cut + length (coming op piece)) w in
      let (most, room) = (and-eq-true_iff (leb (length new) most_tokens && shallow (toks new)) (leb (length new) (length buf))).0 a.size in
      let (few, _) = (and-eq-true_iff (leb (length new) most_tokens) (shallow (toks new))).0 most in
      let few = leb-true (length new) most_tokens few in
      let room = leb-true (length new) (length buf) room in
      let n = f.size in
      let p = f.place in
      let c = f.come in
      let t = ap length f.tokens in
      let inside : r.at + r.coming ≤ r.used = omega arith in
      let there : take (r.at + r.coming) after ≡ take (at + length (coming op piece)) new
      = sym (take-take (r.at + r.coming) r.used after inside) ∙ ap (take (r.at + r.coming)) f.tokens ∙ ap₂ (λ i n. take (i + n) new) p c in
      let come : drop r.at (take (r.at + r.coming) after) ≡ coming op piece
      = ap₂ drop p there ∙ splice_piece at cut (coming op piece) (take used buf) (omega (arith, length-take-le used buf s.long)) in
      let gone : used + r.coming - r.used ≡ cut = omega arith in
      let whole : r.at + r.coming - r.at ≡ r.coming = omega arith in
      record {
        old = s.few;
        few = omega arith;
        room = omega arith;
        long = omega (arith, length-take r.used after);
        within = inside;
        front = ap₂ take p f.tokens ∙ splice_front at cut (coming op piece) (take used buf) (omega (arith, length-take-le used buf s.long))
            ∙ take-take at used buf (omega arith) ∙ ap (λ k. take k buf) (sym p);
        comes = subst Comes (sym (sym (toks_drop r.at (take (r.at + r.coming) after)) ∙ ap toks come ∙ coming_toks q (take used buf)))
            (piece_comes (length buf) q (take used buf) s.one a);
        under = omega arith;
        cut = cuts (length buf) q (take used buf) (shape_document buf used sh) a p gone;
        gone = ap₂ (λ k i. take k (drop i buf)) gone p ∙ sym (take-take cut (used - at) (drop at buf) (omega arith))
            ∙ ap (take cut) (sym (drop_take at used buf));
        come = sym (drop_take r.at (r.at + r.coming) after ∙ ap (λ k. take k (drop r.at after)) whole) ∙ come;
        inner = omega arith;
      }

  module _ {r : Form} {after : List ℕ} (sh : shape_of buf used ≡ true) (f : InForm (length buf) q (take used buf) after r) where
    pub ready_few : r.used ≤ most_tokens
    ready_few = (form_ready sh f).few

    pub ready_room : r.used ≤ length buf
    ready_room = (form_ready sh f).room

    pub edited_long : length (take r.used after) ≡ r.used
    edited_long = length-take-le r.used after (form_ready sh f).long

    pub edited_comes : Comes (drop r.at (toks (take (r.at + r.coming) (take r.used after))))
    edited_comes = subst (λ l. Comes (drop r.at (toks l))) (sym (take-take (r.at + r.coming) r.used after (form_ready sh f).within)) (form_ready sh f).comes

    pub ready_long : r.used ≤ length after
    ready_long = (form_ready sh f).long

    pub ready_within : r.at + r.coming ≤ r.used
    ready_within = (form_ready sh f).within

    pub ready_at : r.at ≤ r.used
    ready_at = omega (arith, (form_ready sh f).within)

    pub ready_front : take r.at (take r.used after) ≡ take r.at buf
    ready_front = (form_ready sh f).front

    pub ready_comes : Comes (drop r.at (toks (take (r.at + r.coming) after)))
    ready_comes = (form_ready sh f).comes

    pub ready_under : r.used ≤ used + r.coming
    ready_under = (form_ready sh f).under

    pub ready_inner : r.at + (used + r.coming - r.used) ≤ used
    ready_inner = (form_ready sh f).inner

    pub ready_gone : take (used + r.coming - r.used) (drop r.at buf) ≡ went q (take used buf)
    ready_gone = (form_ready sh f).gone

    pub ready_come : take r.coming (drop r.at after) ≡ coming op piece
    ready_come = (form_ready sh f).come

    pub ready_cut : Cuts q (take used buf) r.at (used + r.coming - r.used)
    ready_cut = (form_ready sh f).cut

    -- the room that the inverse needs
    pub ready_needs : {n : ℕ} → n ≡ count_by op (used + r.coming - r.used) → 3 + n ≡ needs q (take used buf)
    ready_needs e = need_is op place piece (take used buf) r.at (used + r.coming - r.used) ready_cut e

    pub ready_most : {n : ℕ} → n ≡ count_by op (used + r.coming - r.used) → n ≤ most_tokens
    ready_most e = count_few op place piece (take used buf) r.at (used + r.coming - r.used) ready_cut e

  -- ---- the ways out

  answered_form : (k : ℕ) (a : judgement.Answer) (m : Made) → (k ≡ 0 → ⊥) → answered k a m ≡ refused k 0
  answered_form zero a m h = absurd (h refl)
  answered_form (suc k) a m h = refl

  module _ (table second : List ℕ) (counts : List ℤ) where
    abbrev doc : List ℕ
    doc = take used buf

    abbrev E : ℕ
    E = (of_table table).elements

    abbrev made_edit : Edited
    made_edit = editing (of_table table) (length buf) (length second) q doc counts

    -- a fault before judgement
    early : {x : Answer} {k : ℕ} → (k ≡ 0 → ⊥) → limit_fault E (length buf) (length second) q doc counts ≡ k → x ≡ refusal k 0 used
        → outcome_of x buf second counts ≡ outcome buf used second counts made_edit
    unfolding editing
    early {x} {k} h s e =
        ap (λ y. outcome_of y buf second counts) e
        ∙ ap (outcome buf used second counts)
        (sym (ap (λ k. answered k (judge (of_table table) (touched_by q doc) (toks (edited q doc))) (made E q doc counts)) s
        ∙ answered_form k (judge (of_table table) (touched_by q doc) (toks (edited q doc))) (made E q doc counts) h))

    -- .. of form or room
    early_size : {x : Answer} {k : ℕ} → (k ≡ 0 → ⊥) → size_fault (length buf) (length second) q doc ≡ k → x ≡ refusal k 0 used
        → outcome_of x buf second counts ≡ outcome buf used second counts made_edit
    early_size h s e = early h (limit_size E (length buf) (length second) q doc counts (λ z. h (sym s ∙ z)) ∙ s) e

    pub edit_form : {x : Answer} (r : Refusal) → number_of r ≡ form_fault (length buf) q doc → x ≡ refusal (number_of r) 0 used
        → outcome_of x buf second counts ≡ outcome buf used second counts made_edit
    edit_form r er e = early_size (refused_number r) (size_form (length buf) (length second) q doc (λ z. refused_number r (er ∙ z)) ∙ sym er) e

    module _ {r : Form} {after : List ℕ} (f : InForm (length buf) q (take used buf) after r) where
      in_form : form_fault (length buf) q doc ≡ 0
      in_form = f.none

      -- too little room for the inverse
      pub edit_short : {n : ℕ} {x : Answer} → n ≡ needs q doc → length second < n → x ≡ refusal 5 0 used
          → outcome_of x buf second counts ≡ outcome buf used second counts made_edit
      edit_short en h e = early_size (λ z. omega arith) (size_short (length buf) (length second) q doc in_form (omega arith)) e

      module _ {n : ℕ} (en : n ≡ needs q doc) (hn : n ≤ length second) (sh : shape_of buf used ≡ true) where
        in_size : size_fault (length buf) (length second) q doc ≡ 0
        in_size = (size_iff (length buf) (length second) q doc).1 (in_form, omega arith)

        -- the counts, by what goes and what comes
        abbrev counts_by : List ℤ
        counts_by = moved_from (toks (take (used + r.coming - r.used) (drop r.at buf))) (toks (take r.coming (drop r.at after))) E 0 counts

        counts_are : counts_by ≡ moved E q doc counts
        unfolding moved
        counts_are = ap₂ (λ g c. moved_from (toks g) (toks c) E 0 counts) (ready_gone sh f) (ready_come sh f)

        -- a count below 0 or above 8,192
        pub edit_counts : {x : Answer} → all count_good counts_by ≡ false → x ≡ refusal 15 0 used → outcome_of x buf second counts ≡ outcome buf used second counts made_edit
        edit_counts h e = early (λ z. omega arith) (limit_counts E (length buf) (length second) q doc counts in_size (ap (all count_good) (sym counts_are) ∙ h)) e

        -- all are good
        module _ (moves : List ℕ) (ey : (all few moves ≡ true) × (map pos moves ≡ counts_by)) where
          abbrev judgement_of : judgement.Answer
          judgement_of = judge (of_table table) (touched r.at r.coming (toks (take r.used after))) (toks (take r.used after))

          editing_is : {a : judgement.Answer} → a ≡ judgement_of → answered 0 a (made E q doc counts) ≡ made_edit
          unfolding editing touched_by
          editing_is ea =
              ap₂ (λ k a. answered k a (made E q doc counts))
              (sym ((limit_iff E (length buf) (length second) q doc counts).1 (in_size, ap (all count_good) (sym counts_are) ∙ numbers_good moves ey)))
              (ea
              ∙ ap₂ (λ x y. judge (of_table table) (touched x y (toks (take r.used after))) (toks (take r.used after))) (f.place) (f.come)
              ∙ ap (λ l. judge (of_table table) (touched (splice_at op place (toks piece) (toks doc)) (length (coming op piece)) (toks l)) (toks l)) f.tokens)

          pub edit_fault : {x : Answer} (w : Fault) → (number_of w.refusal, w.place) ≡ judgement_of → x ≡ refusal (number_of w.refusal) w.place used
              → outcome_of x buf second counts ≡ outcome buf used second counts made_edit
          edit_fault w ew e =
              ap (λ y. outcome_of y buf second counts) e
              ∙ ap (outcome buf used second counts) (rw (ne_eqb (number_of w.refusal) 0 (refused_number w.refusal)) at (editing_is ew))

          module _ {children : ℕ} (ew : ((0, 0) ≡ judgement_of) × (children ≡ children_of (touched r.at r.coming (toks (take r.used after))) 0 (toks (take r.used after)))) where
            looked_is : children ≡ looked_at q doc
            unfolding looked_at touched_by
            looked_is =
                ew.1
                ∙ ap₂ (λ x y. children_of (touched x y (toks (take r.used after))) 0 (toks (take r.used after))) (f.place) (f.come)
                ∙ ap (λ l. children_of (touched (splice_at op place (toks piece) (toks doc)) (length (coming op piece)) (toks l)) 0 (toks l)) f.tokens

            pub edit_done : {x : Answer} {after' second' : List ℕ} {counts' : List ℤ} → second' ≡ noted second (inverse q doc) → counts' ≡ map pos moves
                → after' ≡ written buf used (take r.used after) → x ≡ done_with used r.used children
                → outcome_of x after' second' counts' ≡ outcome buf used second counts made_edit
            edit_done {x} {after'} {second'} {counts'} es ec eb ex =
                let new : List ℕ = edited q doc in
                let e : done (made E q doc counts) ≡ made_edit = editing_is ew.0 in
                ap (λ y. outcome_of y after' second' counts') ex
                ∙ ap₂ (λ b s. outcome_of (done_with used r.used children) b s counts') (eb ∙ ap (written buf used) f.tokens) es
                ∙ ap (outcome_of (done_with used r.used children) (written buf used new) (noted second (inverse q doc)))
                (ec ∙ ey.1 ∙ counts_are)
                ∙ ap₂ (λ k c. outcome_of (done_with used k c) (written buf used new) (noted second (inverse q doc)) (moved E q doc counts)) (f.size) looked_is
                ∙ ap (outcome buf used second counts) e

  -- ---- the call

  module _ (table second : List ℕ) (counts : List ℤ) {y : Bool} (ey : y ≡ proper table) where
    pub edit_table : {x : Answer} → not y ≡ true → x ≡ refusal 13 0 used → outcome_of x buf second counts ≡ edit table buf used q second counts
    unfolding edit
    edit_table h e = rw (← ey, not-true y h) (ap (λ y. outcome_of y buf second counts) e)

    module _ (h : not y ≡ false) {z : Bool} (ez : z ≡ shape_of buf used) where
      pub edit_shape : {x : Answer} → not z ≡ true → x ≡ refusal 4 0 used → outcome_of x buf second counts ≡ edit table buf used q second counts
      unfolding edit edit_by
      edit_shape g e = rw (← ey, not-false y h, ← ez, not-true z g) (ap (λ y. outcome_of y buf second counts) e)

      pub edit_whole : {o : Outcome} → not z ≡ false → o ≡ outcome buf used second counts (editing (of_table table) (length buf) (length second) q (take used buf) counts)
          → o ≡ edit table buf used q second counts
      unfolding edit edit_by
      edit_whole g e = rw (← ey, not-false y h, ← ez, not-false z g) e

pub is_shaped : (buf : List ℕ) (used : ℕ) {z : Bool} → z ≡ shape_of buf used → not z ≡ false → shape_of buf used ≡ true
is_shaped buf used {z} e h = sym e ∙ not-false z h
