-- The edit: every answer is a number of the paper, and its place is 0 except for 7 to 12. Assumes nothing.
use Rattle.std.specs.Prelude.{◌≡◌, refl, Bool, true, false, cond, List, [], ◌∷◌, ℕ, zero, suc, T, leb, eqb, ℤ, length, take}
use Rattle.std.proofs.Common.{inl, inr}
use Rattle.paper.specs.Basics.{between, all, elem}
use Rattle.paper.specs.Table.{proper}
use Rattle.paper.specs.Tokens.{toks}
use Rattle.paper.specs.Shape.{shape_of}
use Rattle.paper.specs.Rules.{of_table}
use Rattle.paper.specs.Judgement.{Answer, judge}
use Rattle.paper.specs.Edits.{Request, Outcome, Edited, refused as rejected, done, outcome, edited, touched_by, Made, made, good_piece, good_place, fits, form_fault, or_next, size_fault, limit_fault, answered, editing, edit_by, edit}
use Rattle.paper.specs.Back.{needs}
use Rattle.paper.specs.Counts.{moved, count_good}
use Rattle.paper.specs.Answers.{Answers, edit_answers}
use Rattle.paper.specs.Calls.{Performs}
use Rattle.answer_laws.specs.Judged.{each, placed, Judged, judge_judged}

-- a refusal's number and place
abbrev Rejects : Edited → Type 0
Rejects (rejected n p) = Answers edit_answers n p
Rejects (done m) = Unit {0}

pub form_number : (room : ℕ) (q : Request) (doc : List ℕ) → T (elem (form_fault room q doc) (0 ∷ 4 ∷ 5 ∷ 6 ∷ []))
unfolding form_fault
form_number room q doc =
    go (between 1 5 q.operation) (good_piece q.operation (toks q.piece)) (good_place q.operation q.place (toks q.piece) (toks doc)) (fits room (edited q doc))
  where
    go : (a b c d : Bool) → T (elem (cond a (cond b (cond c (cond d 0 5) 6) 4) 6) (0 ∷ 4 ∷ 5 ∷ 6 ∷ []))
    go true true true true = tt
    go true true true false = tt
    go true true false d = tt
    go true false c d = tt
    go false b c d = tt

size_number : (room second : ℕ) (q : Request) (doc : List ℕ) → T (elem (size_fault room second q doc) (0 ∷ 4 ∷ 5 ∷ 6 ∷ []))
unfolding size_fault
size_number room second q doc = go (form_fault room q doc) (leb (needs q doc) second) (form_number room q doc)
  where
    go : (k : ℕ) (b : Bool) → T (elem k (0 ∷ 4 ∷ 5 ∷ 6 ∷ [])) → T (elem (or_next k (cond b 0 5)) (0 ∷ 4 ∷ 5 ∷ 6 ∷ []))
    go zero true t = tt
    go zero false t = tt
    go (suc k) b t = t

limit_number : (E room second : ℕ) (q : Request) (doc : List ℕ) (counts : List ℤ) → T (elem (limit_fault E room second q doc counts) (0 ∷ 4 ∷ 5 ∷ 6 ∷ 15 ∷ []))
unfolding limit_fault
limit_number E room second q doc counts = go (size_fault room second q doc) (all count_good (moved E q doc counts)) (size_number room second q doc)
  where
    go : (k : ℕ) (b : Bool) → T (elem k (0 ∷ 4 ∷ 5 ∷ 6 ∷ [])) → T (elem (or_next k (cond b 0 15)) (0 ∷ 4 ∷ 5 ∷ 6 ∷ 15 ∷ []))
    go zero true t = tt
    go zero false t = tt
    go (suc k) b t = each (λ n. T (elem n (0 ∷ 4 ∷ 5 ∷ 6 ∷ 15 ∷ []))) (0 ∷ 4 ∷ 5 ∷ 6 ∷ []) (tt, (tt, (tt, (tt, tt)))) (suc k) t

answered_rejects : (n : ℕ) (a : Answer) (m : Made) → T (elem n (0 ∷ 4 ∷ 5 ∷ 6 ∷ 15 ∷ [])) → Judged a → Rejects (answered n a m)
answered_rejects zero a m t (inl e) = rw e tt
answered_rejects zero a m t (inr j) = go (eqb a.0 0)
  where
    go : (b : Bool) → Rejects (cond b (done m) (rejected a.0 a.1))
    go true = tt
    go false = each (λ n. Answers edit_answers n a.1) placed (at 7 tt tt, (at 8 tt tt, (at 9 tt tt, (at 10 tt tt, (at 11 tt tt, (at 12 tt tt, tt)))))) a.0 j
      where
        at : (n : ℕ) → T (elem n edit_answers) → T (between 7 12 n) → Answers edit_answers n a.1
        at n t b = record { one_of = t; no_place = λ c. absurd (c b) }
answered_rejects (suc n) a m t j = record { one_of = each (λ k. T (elem k edit_answers)) (0 ∷ 4 ∷ 5 ∷ 6 ∷ 15 ∷ []) (tt, (tt, (tt, (tt, (tt, tt))))) (suc n) t; no_place = λ c. refl }

pub edit_answers_lem : (table buffer : List ℕ) (used : ℕ) (q : Request) (second : List ℕ) (counts : List ℤ) (o : Outcome)
    → Performs table buffer used q second counts o → Answers edit_answers o.number o.place
unfolding edit edit_by editing
edit_answers_lem table buffer used q second counts o e =
    finish (cond (proper table) (edit_by (of_table table) buffer used q second counts) (rejected 13 0)) (by_table (proper table)) e
  where
    by_shape : (b : Bool) → Rejects (cond b (editing (of_table table) (length buffer) (length second) q (take used buffer) counts) (rejected 4 0))
    by_shape true =
        answered_rejects (limit_fault (of_table table).elements (length buffer) (length second) q (take used buffer) counts)
        (judge (of_table table) (touched_by q (take used buffer)) (toks (edited q (take used buffer))))
        (made (of_table table).elements q (take used buffer) counts)
        (limit_number (of_table table).elements (length buffer) (length second) q (take used buffer) counts)
        (judge_judged (of_table table) (touched_by q (take used buffer)) (toks (edited q (take used buffer))))
    by_shape false = record { one_of = tt; no_place = λ c. refl }

    by_table : (b : Bool) → Rejects (cond b (edit_by (of_table table) buffer used q second counts) (rejected 13 0))
    by_table true = by_shape (shape_of buffer used)
    by_table false = record { one_of = tt; no_place = λ c. refl }

    finish : (x : Edited) → Rejects x → o ≡ outcome buffer used second counts x → Answers edit_answers o.number o.place
    finish (rejected n p) h e = let a : o.number ≡ n = cc in let b : o.place ≡ p = cc in rw (a, b) h
    finish (done m) h e = let a : o.number ≡ 0 = cc in let b : o.place ≡ 0 = cc in rw (a, b) (record { one_of = tt; no_place = λ c. refl })
