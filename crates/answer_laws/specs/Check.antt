-- The check: every answer is a number of the paper and never 7, and its place is 0 except for 8 to 12. Assumes nothing.
use Rattle.std.specs.Prelude.{◌≡◌, refl, ◌≢◌, Bool, true, false, cond, List, ℕ, T, take}
use Rattle.std.proofs.Common.{inl, inr, arith}
use Rattle.paper.specs.Basics.{between, elem}
use Rattle.paper.specs.Table.{proper}
use Rattle.paper.specs.Tokens.{toks}
use Rattle.paper.specs.Shape.{shape_of}
use Rattle.paper.specs.Rules.{of_table}
use Rattle.paper.specs.Judgement.{Answer, judge, whole, checking, check}
use Rattle.paper.specs.Answers.{Answers, check_answers}
use Rattle.answer_laws.specs.Judged.{each, placed, Judged, judge_judged}
use Rattle.answer_laws.specs.ShapeParts.{shape_element}
use Rattle.answer_laws.specs.NeverSeven.{table_sound, document_not7}

-- "A whole check never gives 7, as 10 or the parent's 9 comes first"
pub check_never_7 : (table buffer : List ℕ) (used : ℕ) (o : Answer) → o ≡ check table buffer used → o.0 ≢ 7
unfolding check checking
check_never_7 table buffer used o e = by_table (proper table) refl e
  where
    by_shape : proper table ≡ true → (b : Bool) → shape_of buffer used ≡ b → o ≡ cond b (judge (of_table table) whole (toks (take used buffer))) (4, 0) → o.0 ≢ 7
    by_shape p true s e = rw e (document_not7 (of_table table) (table_sound table p) (toks (take used buffer)) (shape_element buffer used s))
    by_shape p false s e = rw e (λ z. absurd (omega arith))

    by_table : (b : Bool) → proper table ≡ b → o ≡ cond b (cond (shape_of buffer used) (judge (of_table table) whole (toks (take used buffer))) (4, 0)) (13, 0) → o.0 ≢ 7
    by_table true p e = by_shape p (shape_of buffer used) refl e
    by_table false p e = rw e (λ z. absurd (omega arith))

pub check_answers_lem : (table buffer : List ℕ) (used : ℕ) (o : Answer) → o ≡ check table buffer used → Answers check_answers o.0 o.1
unfolding check checking
check_answers_lem table buffer used o e = by_table (proper table) e
  where
    at : (n : ℕ) → T (elem n check_answers) → T (between 7 12 n) → n ≢ 7 → Answers check_answers n o.1
    at n t b d = record { one_of = t; no_place = λ c. absurd (c b) }

    by_judge : Judged o → Answers check_answers o.0 o.1
    by_judge (inl z) = rw z (record { one_of = tt; no_place = λ c. refl })
    by_judge (inr t) =
        each (λ k. k ≢ 7 → Answers check_answers k o.1) placed (λ n. absurd (n refl), (at 8 tt tt, (at 9 tt tt, (at 10 tt tt, (at 11 tt tt, (at 12 tt tt, tt)))))) o.0 t
        (check_never_7 table buffer used o e)

    by_shape : (b : Bool) → o ≡ cond b (judge (of_table table) whole (toks (take used buffer))) (4, 0) → Answers check_answers o.0 o.1
    by_shape true f = by_judge (rw f (judge_judged (of_table table) whole (toks (take used buffer))))
    by_shape false f = rw f (record { one_of = tt; no_place = λ c. refl })

    by_table : (b : Bool) → o ≡ cond b (cond (shape_of buffer used) (judge (of_table table) whole (toks (take used buffer))) (4, 0)) (13, 0) → Answers check_answers o.0 o.1
    by_table true f = by_shape (shape_of buffer used) f
    by_table false f = rw f (record { one_of = tt; no_place = λ c. refl })
