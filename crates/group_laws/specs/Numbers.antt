-- The numbers that a group answers. Assumes nothing.
use Rattle.std.specs.Prelude.{◌≡◌, refl, Bool, false, cond, ◌||◌, T, eqb, length, take}
use Rattle.std.proofs.Common.{inl, inr, ne_eqb}
use Rattle.std.proofs.Math.Bool.{true}
use mathlib.Core.List.{List, [], ◌∷◌}
use Prim.Native.Nat.{ℕ}
use Rattle.std.proofs.Math.Seq.{take-length}
use Rattle.paper.specs.Basics.{elem}
use Rattle.paper.specs.Tokens.{toks}
use Rattle.paper.specs.Shape.{shape_of}
use Rattle.paper.specs.Rules.{of_table}
use Rattle.paper.specs.Judgement.{Answer, judge, whole, checking, check}
use Rattle.paper.specs.Answers.{Answers, check_answers, group_answers}
use Rattle.paper.specs.Edits.{Request, form_fault}
use Rattle.answer_laws.specs.Check.{check_answers_lem}
use Rattle.answer_laws.specs.Edit.{form_number}
use Rattle.answer_laws.specs.Judged.{each}
use Rattle.paper.specs.Groups.{after, Work, GroupOutcome, verdict, copied, stopped, begun, group}
use Rattle.group_laws.specs.Worked.{Refused, Reached, worked_told, shape_alone, shape_after}
use Rattle.group_laws.specs.Kept.{Begins, by_ways}

formed : (room : ℕ) (q : Request) (doc : List ℕ) → T (elem (form_fault room q doc) group_answers)
formed room q doc = each (λ k. T (elem k group_answers)) (0 ∷ 4 ∷ 5 ∷ 6 ∷ []) (tt, (tt, (tt, (tt, tt)))) (form_fault room q doc) (form_number room q doc)

more : {n p : ℕ} → Answers check_answers n p → Answers group_answers n p
more {n} {p} a = record { one_of = go (eqb n 5) (eqb n 6) a.one_of; no_place = a.no_place }
  where
    go : (b c : Bool) → T (elem n check_answers) → T (b || (c || elem n check_answers))
    go true c t = tt
    go false true t = tt
    go false false t = t

begun_answers : (buffer : List ℕ) (used : ℕ) (second : List ℕ) (w : Work) (a : Answer) → Answers group_answers a.0 a.1
    → let o : GroupOutcome = begun buffer used second w a in Answers group_answers o.number o.place
begun_answers buffer used second w a h = go (eqb a.0 0)
  where
    go : (b : Bool) → let o : GroupOutcome = cond b (copied buffer used second w) (stopped buffer used second w a) in Answers group_answers o.number o.place
    go true = record { one_of = tt; no_place = λ c. refl }
    go false = h

module _ (table buffer : List ℕ) (used : ℕ) (second : List ℕ) (h : Begins table buffer used second) (es : List Request) (w : Work) where
  refused_answers : Refused (length buffer) 1 (take used buffer) es w → Answers group_answers (verdict (of_table table) w).0 (verdict (of_table table) w).1
  refused_answers r =
      rw (ne_eqb w.number 0 r.refused) (record { one_of = rw r.number (formed (length buffer) r.edit (after r.ahead (take used buffer))); no_place = λ c. refl })

  -- the last document is judged whole: what a check of it would answer
  reached_answers : Reached (length buffer) (take used buffer) es w → Answers group_answers (verdict (of_table table) w).0 (verdict (of_table table) w).1
  unfolding check checking
  reached_answers r =
      let new : List ℕ = after es (take used buffer) in
      let good : shape_of new (length new) ≡ true = shape_after (length buffer) es (take used buffer) (shape_alone buffer used h.shape) r.in_form in
      let same : check table new (length new) ≡ judge (of_table table) whole (toks new) = rw (h.table_good, good, take-length new) in
      rw (r.number, r.reached, ← same) (more (check_answers_lem table new (length new) (check table new (length new)) refl))

-- "Every call takes every input and answers a number of the paper." A group never gives 7, as a check does not.
pub group_answers_lem : (table buffer : List ℕ) (used : ℕ) (list second : List ℕ)
    → let o : GroupOutcome = group table buffer used list second in Answers group_answers o.number o.place
group_answers_lem table buffer used list second =
    by_ways (λ o. Answers group_answers o.number o.place) table buffer used second
    (record { one_of = tt; no_place = λ c. refl }) (record { one_of = tt; no_place = λ c. refl }) (record { one_of = tt; no_place = λ c. refl }) list
    (λ h es w f. begun_answers buffer used second w (verdict (of_table table) w)
    (elim (worked_told (length buffer) 1 used (take used buffer) es) [
      | inl r ↦ reached_answers table buffer used second h es w (rw (← f) at r)
      | inr r ↦ refused_answers table buffer used second h es w (rw (← f) at r)
    ]))
