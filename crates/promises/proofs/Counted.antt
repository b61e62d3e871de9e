-- Item 7, proved of the paper's calls: true counts stay true, 15, the check and the question. Assumes nothing.
use Rattle.std.specs.Prelude.{◌≡◌, ◌↔◌, ◌≢◌, Bool, cond, List, [], ◌∷◌, ltb, leb, eqb, ℤ, pos, nat_abs, length, get_or, take}
use Rattle.std.proofs.Math.Path.{refl, ap}
use Rattle.std.proofs.Common.{sym, ◌∙◌, inl, inr, arith, ne_eqb, lt-ltb, le-ltb}
use Rattle.std.proofs.Math.Bool.{true, false}
use Prim.Native.Nat.{ℕ, zero, suc}
use Rattle.std.proofs.Math.Decide.{ℕ_discrete}
use Rattle.paper.specs.Basics.{between, all}
use Rattle.paper.specs.Table.{proper}
use Rattle.paper.specs.Tokens.{toks}
use Rattle.paper.specs.Shape.{shape_of}
use Rattle.paper.specs.Trees.{IsTree, tree_of}
use Rattle.paper.specs.Rules.{of_table}
use Rattle.paper.specs.Judgement.{Answer, judge, check}
use Rattle.paper.specs.Requests.{Request, good_piece, good_place, edited, touched_by}
use Rattle.paper.specs.Back.{needs}
use Rattle.paper.specs.Counts.{tally, elements_in, fresh, TrueCounts, checked_counts, moved, count_good, elements_of}
use Rattle.paper.specs.Edits.{Outcome, Made, made, refused, done, fits, form_fault, or_next, size_fault, limit_fault, answered, editing, outcome, edit_by, edit}
use Rattle.paper.specs.Lists as paper
use Rattle.paper.specs.Lists.{Split, fault, edits, split_list, Listed, run_list, lent_with, next_edit, number_of, edit_list}
use Rattle.paper.specs.Program.{second}
use Rattle.paper.specs.Answers.{Answers, elements_answers}
use Rattle.shape_laws.specs.Written.{written_take}
use Rattle.answer_laws.specs.Judged.{Judged, judge_judged}
use Rattle.back_laws.specs.Taken.{shape_document}
use Rattle.table_laws.specs.Parts.{table_parts}
use Rattle.count_laws.specs.Laws.{tally_tree, moved_true, fresh_good, fresh_length, fresh_at, fresh_past}
use Rattle.count_laws.specs.Limits.{limit_counts, limit_iff, never_met}
use Rattle.promises.specs.Calls.{papers}
use Rattle.promises.proofs.Always.{edit_keeps, edit_leaves}
use Rattle.promises.specs.Counts.{TrueOnTree, EditTrue, ListTrue, EditFifteen, EditNever15, CheckWrites, TellDeterminate, TellAnswers, TellsTree}

-- ---- on the tree

tree_count : (e : ℕ) (doc : List ℕ) (t : IsTree (toks doc)) → tally e (toks doc) ≡ elements_in e (tree_of t)
tree_count e doc t = ap (tally e) t.tokens ∙ tally_tree e (tree_of t)

pub on_tree : TrueOnTree
on_tree E doc t counts c = (
  ap length c ∙ fresh_length E (toks doc),
  λ e b h.
      ap (λ l. get_or l e (pos 0)) c ∙ fresh_at E (toks doc) e h
      ∙ ap (λ x. pos (cond x (tally e (toks doc)) 0)) (lt-ltb e E b) ∙ ap pos (tree_count e doc t),
  λ e b. ap (λ l. get_or l e (pos 0)) c ∙ fresh_past E (toks doc) e b,
)

-- ---- after an edit, and a list

pub edit_true : EditTrue papers
edit_true table buffer used q second counts o e c = elim (ℕ_discrete o.number 0) [
  | no n ↦ let (u, d, k, b, w, m) = edit_keeps table buffer used q second counts o e n in rw (u, b, m) c
  | yes z ↦
      let (p, u, d, b, k, w, m) = edit_leaves table buffer used q second counts o e z in
      rw (u, b, m, written_take buffer used (edited q (take used buffer))) (moved_true (of_table table).elements q (take used buffer) counts c)
]

abbrev Stays : (table : List ℕ) → Outcome → Type 0
Stays table o = TrueCounts (of_table table).elements (take o.used o.buffer) o.counts

next_true : (table : List ℕ) (o : Outcome) (q : Request) → Stays table o → Stays table (next_edit table o q)
next_true table o q c = edit_true table o.buffer o.used q second o.counts (edit table o.buffer o.used q second o.counts) refl c

run_true : (table : List ℕ) (es : List Request) (k : ℕ) (o : Outcome) → Stays table o → Stays table (run_list (next_edit table) number_of k o es).last
run_true table [] k o c = c
run_true table (q ∷ es) k o c =
    go (eqb (next_edit table o q).number 0) (run_true table es (suc k) (next_edit table o q) (next_true table o q c))
  where
    go : (b : Bool) → Stays table (run_list (next_edit table) number_of (suc k) (next_edit table o q) es).last
        → Stays table (cond b (run_list (next_edit table) number_of (suc k) (next_edit table o q) es) (record { last = next_edit table o q; done = k })).last
    go true h = h
    go false h = next_true table o q c

pub list_true : ListTrue papers
unfolding edit_list
list_true table buffer used list counts o p c = rw p (go (split_list list))
  where
    go : (x : Split) → Stays table (paper.listed (next_edit table) number_of (lent_with buffer used counts) x).last
    go (edits es) = run_true table es 0 (lent_with buffer used counts 0) c
    go (fault n) = c

-- ---- 15

-- no judgement gives it
judged_not : (buffer : List ℕ) (used : ℕ) (second : List ℕ) (counts : List ℤ) (a : Answer) (m : Made) → Judged a
    → (outcome buffer used second counts (answered 0 a m)).number ≢ 15
judged_not buffer used second counts a m (inl e) z = let y : ◌≡◌ {A = ℕ} 0 15 = rw e at z in absurd (omega arith)
judged_not buffer used second counts a m (inr j) z = go (eqb a.0 0) z
  where
    go : (b : Bool) → (outcome buffer used second counts (cond b (done m) (refused a.0 a.1))).number ≡ 15 → ⊥
    go true z = absurd (omega arith)
    go false z = rw z at j

-- nor does a number before it
size_not : (room second : ℕ) (q : Request) (doc : List ℕ) → size_fault room second q doc ≢ 15
unfolding size_fault form_fault
size_not room second q doc =
    go (between 1 5 q.operation) (good_piece q.operation (toks q.piece)) (good_place q.operation q.place (toks q.piece) (toks doc))
    (fits room (edited q doc)) (leb (needs q doc) second)
  where
    go : (a b c d r : Bool) → or_next (cond a (cond b (cond c (cond d 0 5) 6) 4) 6) (cond r 0 5) ≢ 15
    go true true true true true z = absurd (omega arith)
    go true true true true false z = absurd (omega arith)
    go true true true false r z = absurd (omega arith)
    go true true false d r z = absurd (omega arith)
    go true false c d r z = absurd (omega arith)
    go false b c d r z = absurd (omega arith)

module _ (table buffer : List ℕ) (used : ℕ) (q : Request) (second : List ℕ) (counts : List ℤ) (o : Outcome) where
  abbrev doc : List ℕ
  doc = take used buffer

  abbrev E : ℕ
  E = (of_table table).elements

  abbrev judged : Answer
  judged = judge (of_table table) (touched_by q doc) (toks (edited q doc))

  abbrev number_at : ℕ → ℕ
  number_at k = (outcome buffer used second counts (answered k judged (made E q doc counts))).number

  not_judged : number_at 0 ≢ 15
  not_judged = judged_not buffer used second counts judged (made E q doc counts) (judge_judged (of_table table) (touched_by q doc) (toks (edited q doc)))

  pub fifteen : o ≡ edit table buffer used q second counts → proper table ≡ true → shape_of buffer used ≡ true
      → size_fault (length buffer) (length second) q doc ≡ 0 → (o.number ≡ 15) ↔ (all count_good (moved E q doc counts) ≡ false)
  unfolding edit edit_by editing
  fifteen e p sh z =
      let number : o.number ≡ number_at (limit_fault E (length buffer) (length second) q doc counts) = ap (λ (x : Outcome). x.number) (rw (p, sh) at e) in
      (λ n. go (all count_good (moved E q doc counts)) refl (sym number ∙ n), λ g. number ∙ ap number_at (limit_counts E (length buffer) (length second) q doc counts z g))
    where
      go : (b : Bool) → all count_good (moved E q doc counts) ≡ b → number_at (limit_fault E (length buffer) (length second) q doc counts) ≡ 15
          → all count_good (moved E q doc counts) ≡ false
      go true g n = absurd (not_judged (rw ((limit_iff E (length buffer) (length second) q doc counts).1 (z, g)) at n))
      go false g n = g

  pub never_15 : o ≡ edit table buffer used q second counts → TrueCounts E doc counts → o.number ≢ 15
  unfolding edit edit_by editing
  never_15 e c n = by_table (proper table) (sym (ap (λ (x : Outcome). x.number) e) ∙ n)
    where
      by_size : (k : ℕ) → k ≢ 15 → number_at k ≡ 15 → ⊥
      by_size zero h z = not_judged z
      by_size (suc k) h z = h z

      by_shape : (b : Bool) → (outcome buffer used second counts (cond b (editing (of_table table) (length buffer) (length second) q doc counts) (refused 4 0))).number ≡ 15 → ⊥
      by_shape true z =
          by_size (size_fault (length buffer) (length second) q doc) (size_not (length buffer) (length second) q doc)
          (rw (never_met E (length buffer) (length second) q doc counts c) at z)
      by_shape false z = absurd (omega arith)

      by_table : (b : Bool) → (outcome buffer used second counts (cond b (edit_by (of_table table) buffer used q second counts) (refused 13 0))).number ≡ 15 → ⊥
      by_table true z = by_shape (shape_of buffer used) z
      by_table false z = absurd (omega arith)

pub edit_fifteen : EditFifteen papers
edit_fifteen = fifteen

pub edit_never_15 : EditNever15 papers
edit_never_15 = never_15

-- ---- the check

pub check_writes : CheckWrites papers
unfolding checked_counts
check_writes table buffer used counts o e =
    let said : o.0.0 ≡ (check table buffer used).0 = ap (λ (x : Answer × List ℤ). x.0.0) e in
    let held : o.1 ≡ cond (eqb (check table buffer used).0 0) (fresh (of_table table).elements (toks (take used buffer))) counts = ap (λ (x : Answer × List ℤ). x.1) e in (
      λ z. held ∙ ap (λ k. cond (eqb k 0) (fresh (of_table table).elements (toks (take used buffer))) counts) (sym said ∙ z),
      λ n. held ∙ ap (λ b. cond b (fresh (of_table table).elements (toks (take used buffer))) counts) (ne_eqb (check table buffer used).0 0 (λ z. n (said ∙ z))),
    )

-- ---- the question

pub tell_determinate : TellDeterminate papers
tell_determinate i o p a b = a ∙ sym b

pub tell_answers : TellAnswers papers
unfolding elements_of
tell_answers table counts name o e = rw e (go (proper table) (all count_good counts))
  where
    go : (a b : Bool)
        → let x : ℕ × ℕ = cond a (cond b (0, cond (ltb name (of_table table).elements) (nat_abs (get_or counts name (pos 0))) 0) (15, 0)) (13, 0) in
        Answers elements_answers x.0 0
    go true true = record { one_of = tt; no_place = λ c. refl }
    go true false = record { one_of = tt; no_place = λ c. refl }
    go false b = record { one_of = tt; no_place = λ c. refl }

pub tells_tree : TellsTree papers
unfolding elements_of
tells_tree table buffer used counts name o e p sh c =
    let E : ℕ = (of_table table).elements in
    let good : all count_good counts ≡ true = ap (all count_good) c ∙ fresh_good E (take used buffer) (shape_document buffer used sh).short in
    let told : o ≡ (0, cond (ltb name E) (nat_abs (get_or counts name (pos 0))) 0) = e ∙ rw (p, good) in
    let count : o.1 ≡ cond (ltb name E) (nat_abs (get_or counts name (pos 0))) 0 = ap (λ (x : ℕ × ℕ). x.1) told in (
      ap (λ (x : ℕ × ℕ). x.0) told,
      λ b t.
          count ∙ ap (λ x. cond x (nat_abs (get_or counts name (pos 0))) 0) (lt-ltb name E b)
          ∙ ap nat_abs ((on_tree E (take used buffer) t counts c).1 name b (omega (arith, (table_parts table p).few_elements))),
      λ b. count ∙ ap (λ x. cond x (nat_abs (get_or counts name (pos 0))) 0) (le-ltb name E b),
    )
