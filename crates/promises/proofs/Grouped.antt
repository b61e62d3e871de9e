-- The promises of item 9 of the paper's call, with their proofs. Assumes nothing.
use Rattle.std.specs.Prelude.{◌≡◌, refl, ◌↔◌, ◌⊎◌, ◌≢◌, Bool, true, false, cond, List, [], ◌∷◌, ◌++◌, ℕ, suc, ◌+◌, ◌-◌, ◌≤◌, eqb, pos, ◌-ℤ◌, length, take, drop, replicate}
use Rattle.std.proofs.Common.{sym, ap, ◌∙◌, inl, inr, append-nil, arith, eqb-true, ne_eqb, le-leb, length-take-le}
use Rattle.std.proofs.Math.Decide.{ℕ_discrete}
use Rattle.std.proofs.lemmas.Bool.{eqb-false, lt-leb}
use Rattle.std.proofs.Math.Seq.{take-length}
use Rattle.paper.specs.Schema.{Schema}
use Rattle.paper.specs.Rules.{of_schema, of_table}
use Rattle.paper.specs.Judgement.{Answer, checking}
use Rattle.paper.specs.Validity.{ValidDocument}
use Rattle.paper.specs.Edits.{Request, written}
use Rattle.paper.specs.Lists.{edits, split_list}
use Rattle.shape_laws.specs.Shaped.{shaped}
use Rattle.paper.specs.Groups.{Work, worked, GroupOutcome, verdict, reached_in, copied, stopped, begun, group, after, AllInForm}
use Rattle.group_laws.specs.Worked.{Refused, Reached, worked_told, not_both, longest_most, shape_alone, shape_after}
use Rattle.group_laws.specs.Second.{Reaches, none_longer, one_as_long, second_told}
use Rattle.group_laws.specs.Kept as laws
use Rattle.group_laws.specs.Numbers.{group_answers_lem}
use Rattle.promises.specs.Calls.{papers}
use Rattle.promises.specs.Statements.{Translated}
use Rattle.promises.specs.Groups.{Begins, FirstKept, Stops, SecondHolds, GroupRight, GroupDeterminate, GroupAnswers, GroupOrder, GroupKeeps, GroupSecond, GroupLengths}
use Rattle.promises.proofs.Written.{written_valid}
use Rattle.promises.proofs.ByTable.{table_proper, table_reads}

-- ---- every group

pub determinate : GroupDeterminate papers
determinate i o p a b = a ∙ sym b

pub answers : GroupAnswers papers
answers table buffer used list second o e = rw e (group_answers_lem table buffer used list second)

pub keeps : GroupKeeps papers
keeps table buffer used list second o e = laws.group_keeps table buffer used list second o e

pub lengths : GroupLengths papers
lengths table buffer used list second o e = rw e (laws.group_lengths table buffer used list second)

pub order : GroupOrder papers
unfolding group
order table buffer used list second o e = record {
  table_first = λ t. e ∙ rw t;
  shape = λ t h. e ∙ rw (t, h);
  list_fault = λ r n f. e ∙ rw (r.0, r.1, f);
  room = λ r es f l. e ∙ rw (r.0, r.1, f, lt-leb (length buffer) (length second) l);
}

-- ---- the second buffer

module _ (buffer : List ℕ) (used : ℕ) (second : List ℕ) (w : Work) (a : Answer) where
  begun_second : (begun buffer used second w a).second ≡ reached_in second w
  begun_second = go (eqb a.0 0)
    where
      go : (b : Bool) → (cond b (copied buffer used second w) (stopped buffer used second w a)).second ≡ reached_in second w
      go true = refl
      go false = refl

-- a group that begins
begins : (table buffer : List ℕ) (used : ℕ) (list second : List ℕ) (es : List Request) → Begins table buffer used list second es
    → let w : Work = worked (length buffer) 1 used (take used buffer) es in group table buffer used list second ≡ begun buffer used second w (verdict (of_table table) w)
unfolding group
begins table buffer used list second es b = rw (b.ready.0, b.ready.1, b.splits, le-leb (length buffer) (length second) b.room)

module _ (table buffer : List ℕ) (used : ℕ) (list second : List ℕ) (o : GroupOutcome) (e : o ≡ group table buffer used list second)
    (es : List Request) (b : Begins table buffer used list second es) where
  abbrev start : List ℕ
  start = take used buffer

  abbrev done_work : Work
  done_work = worked (length buffer) 1 used start es

  long : used ≤ length buffer
  long = (shaped buffer used b.ready.1).long

  size : length start ≡ used
  size = length-take-le used buffer long

  holds_work : o.second ≡ done_work.doc ++ (replicate (done_work.longest - length done_work.doc) 0 ++ drop done_work.longest second)
  holds_work =
      ap (λ (y : GroupOutcome). y.second) (e ∙ begins table buffer used list second es b) ∙ begun_second buffer used second done_work (verdict (of_table table) done_work)
      ∙ second_told second done_work (longest_most (length buffer) 1 used start es (omega (arith, size)) long).0

  as_long : (done_work.longest ≡ used) ⊎ Reaches (length buffer) start es done_work.longest → Reaches (length buffer) start es done_work.longest
  as_long (inl z) = ([], es, refl, tt, size ∙ sym z)
  as_long (inr r) = r

  told : (made left : List Request) → es ≡ made ++ left → AllInForm (length buffer) made start → Stops (length buffer) left (after made start)
      → done_work.doc ≡ after made start → SecondHolds (length buffer) start es second o.second
  told made left x f t r = record {
    made = made;
    left = left;
    splits = x;
    in_form = f;
    stops = t;
    longest = done_work.longest;
    none_longer = λ a c y g. rw (← y) at (none_longer (length buffer) 1 used start a c (omega (arith, size)) g);
    one_as_long = as_long (one_as_long (length buffer) 1 used start es);
    holds = rw r at holds_work;
  }

  holds_both : SecondHolds (length buffer) start es second o.second
  holds_both = elim (worked_told (length buffer) 1 used start es) [
    | inl r ↦ told es [] (sym (append-nil es)) r.in_form tt r.reached
    | inr r ↦ told r.ahead (r.edit ∷ r.behind) r.splits r.in_form (λ z. r.refused (r.number ∙ z)) r.reached
  ]

pub second_holds : GroupSecond papers
second_holds table buffer used list second o e es b = holds_both table buffer used list second o e es b

-- ---- the outcome by its answer

module _ (buffer : List ℕ) (used : ℕ) (second : List ℕ) (w : Work) (a : Answer) (o : GroupOutcome) (e : o ≡ begun buffer used second w a) where
  begun_done : (o.number ≡ 0) ↔ (a.0 ≡ 0)
  begun_done = go (eqb a.0 0) refl e
    where
      go : (b : Bool) → eqb a.0 0 ≡ b → o ≡ cond b (copied buffer used second w) (stopped buffer used second w a) → (o.number ≡ 0) ↔ (a.0 ≡ 0)
      go true f e = (λ z. eqb-true a.0 0 f, λ z. cc)
      go false f e = (λ z. absurd (eqb-false a.0 0 f (sym (ap (λ (x : GroupOutcome). x.number) e) ∙ z)), λ z. absurd (eqb-false a.0 0 f z))

  begun_stopped : a.0 ≢ 0 → o ≡ stopped buffer used second w a
  begun_stopped n = go (eqb a.0 0) refl e
    where
      go : (b : Bool) → eqb a.0 0 ≡ b → o ≡ cond b (copied buffer used second w) (stopped buffer used second w a) → o ≡ stopped buffer used second w a
      go true f e = absurd (n (eqb-true a.0 0 f))
      go false f e = e

  begun_copied : a.0 ≡ 0 → o ≡ copied buffer used second w
  begun_copied z = rw z at e

-- ---- from a valid document

-- Judging from the expressions finds the valid documents.
module _ (s : Schema) (valid_iff : (buffer : List ℕ) (used : ℕ) → ((checking (of_schema s) buffer used).0 ≡ 0) ↔ ValidDocument s buffer used)
    (table : List ℕ) (t : Translated papers s table) where
  module _ (buffer : List ℕ) (used : ℕ) (v : ValidDocument s buffer used) (list second : List ℕ) (es : List Request) (x : split_list list ≡ edits es)
      (room : length buffer ≤ length second) (o : GroupOutcome) (p : o ≡ group table buffer used list second) where
    abbrev doc : List ℕ
    doc = take used buffer

    abbrev new : List ℕ
    new = after es doc

    abbrev work : Work
    work = worked (length buffer) 1 used doc es

    made : o ≡ begun buffer used second work (verdict (of_schema s) work)
    made =
        p ∙ begins table buffer used list second es (record { ready = (table_proper s table t, v.shape); splits = x; room = room })
        ∙ ap (λ R. begun buffer used second work (verdict R work)) (table_reads s table t)

    kept : o.number ≢ 0 → FirstKept buffer used o
    kept = keeps table buffer used list second o p

    fits : length work.doc ≤ length buffer
    fits =
        let l : used ≤ length buffer = (shaped buffer used v.shape).long in
        let h = longest_most (length buffer) 1 used doc es (omega (arith, length-take-le used buffer l)) l in
        omega arith

    module _ (r : Reached (length buffer) doc es work) where
      end_judged : verdict (of_schema s) work ≡ checking (of_schema s) new (length new)
      unfolding checking
      end_judged =
          rw (r.number, r.reached, shape_after (length buffer) es doc (shape_alone buffer used v.shape) r.in_form, take-length new)

      reached_made : o ≡ begun buffer used second work (checking (of_schema s) new (length new))
      reached_made = made ∙ ap (begun buffer used second work) end_judged

      reached_left : o.number ≡ 0
          → (o.place ≡ 0) × (o.which ≡ 0) × (o.used ≡ length new) × (o.change ≡ pos (length new) -ℤ pos used) × (o.buffer ≡ written buffer used new)
      reached_left z =
          let a : Answer = checking (of_schema s) new (length new) in
          let e = begun_copied buffer used second work a o reached_made ((begun_done buffer used second work a o reached_made).0 z) in
          rw (e, r.reached) (refl, refl, refl, refl, refl)

      reached_right : GroupRight s buffer used es o
      reached_right =
          let a : Answer = checking (of_schema s) new (length new) in
          let d = begun_done buffer used second work a o reached_made in
          let c = valid_iff new (length new) in
          record {
            done_exactly = (λ z. (r.in_form, c.0 (d.0 z)), λ w. d.1 (c.1 w.1));
            number_place = λ f n.
                let e = begun_stopped buffer used second work a o reached_made (λ z. n (d.1 z)) in
                (ap (λ (y : GroupOutcome). (y.number, y.place)) e, ap (λ (y : GroupOutcome). y.which) e ∙ r.which);
            not_in_form = λ n. absurd (n r.in_form);
            kept = kept;
            left = reached_left;
            valid_after = elim (ℕ_discrete o.number 0) [
              | no n ↦ let (u, h, b) = kept n in rw (u, b) v
              | yes z ↦ let (l, h, u, m, b) = reached_left z in rw (u, b) (written_valid buffer used new (shaped buffer used v.shape).long (rw r.reached at fits) s (c.0 (d.0 z)))
            ];
          }

    one_more : (n : ℕ) → 1 + n ≡ suc n
    one_more n = omega arith

    module _ (r : Refused (length buffer) 1 doc es work) where
      refused_made : o ≡ stopped buffer used second work (work.number, 0)
      refused_made =
          let f : eqb work.number 0 ≡ false = ne_eqb work.number 0 r.refused in
          let told : verdict (of_schema s) work ≡ (work.number, 0) = rw f in
          begun_stopped buffer used second work (work.number, 0) o (made ∙ ap (begun buffer used second work) told) r.refused

      refused_right : GroupRight s buffer used es o
      refused_right =
          let n : o.number ≢ 0 = λ z. r.refused (sym (ap (λ (y : GroupOutcome). y.number) refused_made) ∙ z) in
          let never = not_both (length buffer) 1 doc es work r in
          record {
            done_exactly = (λ z. absurd (n z), λ w. absurd (never w.0));
            number_place = λ f k. absurd (never f);
            not_in_form = λ k. record {
              ahead = r.ahead;
              edit = r.edit;
              behind = r.behind;
              splits = r.splits;
              in_form = r.in_form;
              not_in_form = λ z. r.refused (r.number ∙ z);
              number = ap (λ (y : GroupOutcome). y.number) refused_made ∙ r.number;
              place = ap (λ (y : GroupOutcome). y.place) refused_made;
              which = ap (λ (y : GroupOutcome). y.which) refused_made ∙ r.which ∙ one_more (length r.ahead);
            };
            kept = kept;
            left = λ z. absurd (n z);
            valid_after = let (u, h, b) = kept n in rw (u, b) v;
          }

    pub group_right : GroupRight s buffer used es o
    group_right = elim (worked_told (length buffer) 1 used doc es) [ inl r ↦ reached_right r | inr r ↦ refused_right r ]
