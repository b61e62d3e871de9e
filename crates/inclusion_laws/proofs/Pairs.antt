-- The pairs of a run of the old block and a run of the new one: what becomes of a sequence depends on the pair that it leads to
-- alone. Assumes nothing.
use Rattle.std.specs.Prelude.{◌≡◌, refl, Bool, true, false, cond, not, ◌&&◌, List, [], ◌∷◌, ℕ, ◌+◌, ◌≤◌, ◌<◌, eqb}
use Rattle.std.proofs.Common.{sym, ◌∙◌, ap, ap₂, arith, eqb-true}
use Rattle.std.proofs.Math.Bool.{and-eq-true_iff}
use Rattle.std.proofs.Math.Option.{Option, none, some}
use Rattle.paper.specs.Basics.{null, find, most_names, sequence_places}
use Rattle.paper.specs.Sets.{bit}
use Rattle.paper.specs.Table.{cell, kind_at, count_at, names_at}
use Rattle.paper.specs.Rules.{State, start, at, set_at, move, run_from, ended, runs}
use Rattle.paper_laws.specs.Basics.{find_some}
use Rattle.table.specs.Run as run
use Rattle.table.specs.Run.{stepped, onward_step}
use Rattle.inclusion_laws.specs.Search.{onward, reach, loses, loses_by}
use Rattle.inclusion_laws.specs.Invariant.{Sound}
use Rattle.inclusion_laws.specs.Pairs.{block_takes, stops, Runnable, Pair, state_number, run_number, pairs, Inside, InsideRun}

-- ---- the next occurrence

-- it is one of the block's, and has the child's name
move_some : (b : List ℕ) (s : State) (a k : ℕ) → move b s a ≡ some k → (k < cell b count_at) × (cell b (names_at + k) ≡ a)
move_some b s a k e =
    let (i, t) = find_some (λ k. bit (set_at b s) k && eqb (cell b (names_at + k)) a) (cell b count_at) k e in
    (i, eqb-true (cell b (names_at + k)) a ((and-eq-true_iff (bit (set_at b s) k) (eqb (cell b (names_at + k)) a)).0 t).1)

no_move : (b : List ℕ) (s : State) (a : ℕ) → cell b count_at ≡ 0 → move b s a ≡ none
no_move b s a z = ap (λ n. find (λ k. bit (set_at b s) k && eqb (cell b (names_at + k)) a) n) z

-- ---- what is taken

-- what a block takes is what its run stops after
takes_stops : (E : ℕ) (b w : List ℕ) → Runnable E b → block_takes b w ≡ stops b (run_from b start w)
takes_stops E b w r = go (eqb (cell b kind_at) 0) refl
  where
    -- EMPTY
    none_taken : (w : List ℕ) → cell b count_at ≡ 0 → eqb (cell b kind_at) 0 ≡ true → null w ≡ stops b (run_from b start w)
    none_taken [] z e = rw e
    none_taken (a ∷ w) z e = ap (λ o. stops b (elim o as (λ x. Option State) [ none ↦ none | some k ↦ run_from b (at k) w ])) (sym (no_move b start a z))

    -- a model
    ended_stops : (o : Option State) → eqb (cell b kind_at) 0 ≡ false → ended b o ≡ stops b o
    ended_stops none e = refl
    ended_stops (some s) e = rw e

    go : (c : Bool) → eqb (cell b kind_at) 0 ≡ c → cond c (null w) (runs b w) ≡ stops b (run_from b start w)
    go true e = none_taken w (r.no_names (eqb-true (cell b kind_at) 0 e)) e
    go false e = ended_stops (run_from b start w) e

-- ---- two blocks

module _ (old new : List ℕ) where
  abbrev joined : Option State → Option State → Option Pair
  joined none t = none
  joined (some s) t = some (record { was = s; is = t })

  none_read : (b : List ℕ) (o : Option State) → o ≡ run.onward b o []
  none_read b none = refl
  none_read b (some s) = refl

  onward_joined : (o t : Option State) (a : ℕ) → onward (pairs old new) (joined o t) a ≡ joined (stepped old o a) (stepped new t a)
  onward_joined none t a = refl
  onward_joined (some s) t a = go (move old s a)
    where
      go : (o : Option ℕ) → elim o as (λ x. Option Pair) [ none ↦ none | some k ↦ some (record { was = at k; is = stepped new t a }) ]
          ≡ joined (elim o [ none ↦ none | some k ↦ some (at k) ]) (stepped new t a)
      go none = refl
      go (some k) = refl

  -- the pair that a sequence leads to is that of the two runs
  reach_joined : (w : List ℕ) (o t : Option State) → reach (pairs old new) (joined o t) w ≡ joined (run.onward old o w) (run.onward new t w)
  reach_joined [] o t = ap₂ joined (none_read old o) (none_read new t)
  reach_joined (a ∷ w) o t =
      ap (λ x. reach (pairs old new) x w) (onward_joined o t a)
      ∙ reach_joined w (stepped old o a) (stepped new t a)
      ∙ ap₂ joined (onward_step old o a w) (onward_step new t a w)

  loses_joined : (o t : Option State) → loses (pairs old new) (joined o t) ≡ stops old o && not (stops new t)
  loses_joined none t = refl
  loses_joined (some s) t = refl

  -- what becomes of a sequence depends on the pair that it leads to alone
  pub loses_lost : (E F : ℕ) → Runnable E old → Runnable F new → (w : List ℕ) → loses_by (pairs old new) w ≡ block_takes old w && not (block_takes new w)
  loses_lost E F r q w =
      ap (loses (pairs old new)) (reach_joined w (some start) (some start))
      ∙ loses_joined (run_from old start w) (run_from new start w)
      ∙ ap₂ (λ x y. x && not y) (sym (takes_stops E old w r)) (sym (takes_stops F new w q))

-- ---- the pairs that can be met

module _ (b : List ℕ) (few : cell b count_at ≤ most_names) where
  state_below : (s : State) → Inside b s → state_number s < 65
  state_below start i = omega arith
  state_below (at k) i = omega arith

  pub run_below : (o : Option State) → InsideRun b o → run_number o < 66
  run_below none i = omega arith
  run_below (some s) i = let k = state_below s i in omega arith

stepped_inside : (b : List ℕ) (o : Option State) (a : ℕ) → InsideRun b (stepped b o a)
stepped_inside b none a = tt
stepped_inside b (some s) a = go (move b s a) refl
  where
    go : (o : Option ℕ) → move b s a ≡ o → InsideRun b (elim o [ none ↦ none | some k ↦ some (at k) ])
    go none e = tt
    go (some k) e = (move_some b s a k e).0

same_state : (s t : State) → state_number s ≡ state_number t → s ≡ t
same_state start start e = refl
same_state start (at k) e = absurd (omega arith)
same_state (at j) start e = absurd (omega arith)
same_state (at j) (at k) e = ap at (omega arith)

same_run : (s t : Option State) → run_number s ≡ run_number t → s ≡ t
same_run none none e = refl
same_run none (some t) e = absurd (omega arith)
same_run (some s) none e = absurd (omega arith)
same_run (some s) (some t) e = ap some (same_state s t (omega arith))

module _ (E F : ℕ) (old new : List ℕ) (r : Runnable E old) (q : Runnable F new) where
  abbrev Good : Pair → Type 0
  Good p = Inside old p.was × InsideRun new p.is

  -- a step reads an occurrence of the old block
  step_some : (p t : Pair) (a : ℕ) → (pairs old new).step p a ≡ some t
      → (k : ℕ) × (move old p.was a ≡ some k) × (t ≡ record { was = at k; is = stepped new p.is a })
  step_some p t a = go (move old p.was a) refl
    where
      go : (o : Option ℕ) → move old p.was a ≡ o
          → elim o as (λ x. Option Pair) [ none ↦ none | some k ↦ some (record { was = at k; is = stepped new p.is a }) ] ≡ some t
          → (k : ℕ) × (move old p.was a ≡ some k) × (t ≡ record { was = at k; is = stepped new p.is a })
      go none e d = let z : ◌≡◌ {A = ℕ} 0 1 = cc in absurd (omega arith)
      go (some k) e d = (k, e, cc)

  number_own : (p t : Pair) → Good p → Good t → (pairs old new).number p ≡ (pairs old new).number t → p ≡ t
  number_own p t (i, j) (k, l) e =
      let a = run_below new q.few_names p.is j in
      let b = run_below new q.few_names t.is l in
      ap₂ (λ x y. record { was = x; is = y }) (same_state p.was t.was (omega arith)) (same_run p.is t.is (omega arith))

  pub sound : 1 ≤ E → Sound (pairs old new) E sequence_places
  sound one = record {
    some_names = one;
    Good = Good;
    begins = (tt, tt);
    goes = λ p t a g e. let (k, d, c) = step_some p t a e in rw c ((move_some old p.was a k d).0, stepped_inside new p.is a);
    low = λ p t a e. let (k, d, c) = step_some p t a e in let (i, n) = move_some old p.was a k d in rw n at (r.names_below k i);
    few = λ p (i, j). let a = state_below old r.few_names p.was i in let b = run_below new q.few_names p.is j in omega arith;
    own = number_own;
  }

  -- what is good there
  pub good_inside : (one : 1 ≤ E) (p : Pair) → (sound one).Good p → Inside old p.was × InsideRun new p.is
  unfolding sound
  good_inside one p g = g
