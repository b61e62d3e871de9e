-- A step of a run, and its end, as the code finds them. Assumes nothing.
use Rattle.std.specs.Prelude.{◌≡◌, refl, Bool, true, Option, Some, None, ◌&&◌, List, ℕ, ◌+◌, ◌^◌, ◌≤◌, ◌<◌, ltb, eqb, length, take, drop, get_or}
use Rattle.std.proofs.Common.{sym, ap, ◌∙◌, arith, ltb-true, lt-ltb, length-drop, length-take-le, take-take, get_or-take, get_or-drop, pow_pos}
use Rattle.std.proofs.Math.Bool.{and-eq-true_iff}
use Rattle.std.proofs.Math.Option.{Option as Maybe, none, some}
use Rattle.paper.specs.Basics.{find, distinct, most_names}
use Rattle.paper.specs.Sets.{bit}
use Rattle.paper.specs.Table.{cell, count_at, no_child_at, first_at, last_at, names_at, follow_at, chosen}
use Rattle.paper.specs.Rules.{State, start, at, set_at, move, ended}
use Rattle.paper_laws.specs.Basics.{find_some, find_same, all_at}
use Rattle.sets.specs.Chosen.{chosen_none, chosen_take}
use Rattle.set_walks.specs.Named.{next_named, place, named_find}
use Rattle.table.specs.Run.{state_of, stepped, inside, sound, Ready, Stepped}
use Rattle.table.specs.declared.Run.{Run}
use Rattle.table.specs.declared.Run.TheVariants.{Start, At, Lost}

-- ---- the next occurrence

-- as a run
abbrev pub to_run : Maybe ℕ → Run
to_run none = Lost
to_run (some k) = At k

abbrev pub moved : List ℕ → ℕ → ℕ → Run
moved b w a = to_run (find (λ k. bit w k && eqb (cell b (names_at + k)) a) (cell b count_at))

module _ (b : List ℕ) (g : Ready b) (w a : ℕ) (p : sound b w ≡ true) where
  abbrev n : ℕ
  n = cell b count_at

  abbrev names : List ℕ
  names = take most_names (drop names_at b)

  next_move : (r : Option ℕ) → r ≡ next_named w names a → to_run (place r) ≡ moved b w a
  next_move r m =
      let (h, d) = (and-eq-true_iff (ltb w (2 ^ n)) (distinct (chosen w (take n (drop names_at b))))).0 p in
      let i : w < 2 ^ n = ltb-true w (2 ^ n) h in
      let few : n ≤ most_names = g.few in
      let long : length names ≡ most_names = length-take-le most_names (drop names_at b) (let l = g.long in simp length-drop (omega arith)) in
      let c : distinct (chosen w names) ≡ true = ap distinct (sym (chosen_take n w names i) ∙ ap (chosen w) (take-take n most_names (drop names_at b) few)) ∙ d in
      ap to_run (named_find w names a n r m i (omega arith) c
      ∙ find_same (λ k. bit w k && eqb (get_or names k 0) a) (λ k. bit w k && eqb (cell b (names_at + k)) a) n
      (λ k l. ap (λ x. bit w k && eqb x a) (get_or-take most_names (drop names_at b) k 0 (omega arith) ∙ get_or-drop names_at b k 0)))

  pub move_there : {r : Option ℕ} {k : ℕ} → r ≡ next_named w (take most_names (drop names_at b)) a → r ≡ Some k → At k ≡ moved b w a
  move_there {r} {k} m e = next_move (Some k) (rw e at m)

  pub move_nowhere : {r : Option ℕ} → r ≡ next_named w (take most_names (drop names_at b)) a → r ≡ None → Lost ≡ moved b w a
  move_nowhere {r} m e = next_move None (rw e at m)

-- ---- a step, and the end

module _ (b : List ℕ) (g : Ready b) where
  pub follow_sound : (k : ℕ) → k < cell b count_at → sound b (cell b (follow_at + k)) ≡ true
  follow_sound k h =
      let n : ℕ = cell b count_at in
      let z : sound b 0 ≡ true = rw (lt-ltb 0 (2 ^ n) (pow_pos n), chosen_none (take n (drop names_at b))) in
      let s : get_or (take n (drop follow_at b)) k 0 ≡ cell b (follow_at + k) = get_or-take n (drop follow_at b) k 0 h ∙ get_or-drop follow_at b k 0 in
      rw s at (all_at (sound b) z (take n (drop follow_at b)) g.follow_sets k)

  module _ {r : Run} (i : inside b (state_of r) ≡ true) where
    pub at_inside : {k : ℕ} → r ≡ At k → k < cell b count_at
    at_inside {k} e = ltb-true k (cell b count_at) (rw e at i)

    pub at_below : {k : ℕ} → r ≡ At k → k < most_names
    at_below e = let h = at_inside e in let f = g.few in omega arith

  stay_inside : (s : State) (a : ℕ) → (state_of (moved b (set_at b s) a) ≡ stepped b (some s) a) × (inside b (state_of (moved b (set_at b s) a)) ≡ true)
  stay_inside s a = go (move b s a) refl
    where
      go : (o : Maybe ℕ) → move b s a ≡ o
          → (state_of (to_run o) ≡ elim o [ none ↦ none | some k ↦ some (at k) ]) × (inside b (state_of (to_run o)) ≡ true)
      go none q = (refl, refl)
      go (some k) q = (refl, lt-ltb k (cell b count_at) (find_some (λ k. bit (set_at b s) k && eqb (cell b (names_at + k)) a) (cell b count_at) k q).0)

  step_by : (s : State) (a : ℕ) {q r : Run} → state_of q ≡ some s → r ≡ moved b (set_at b s) a → Stepped b q a r
  step_by s a {q} {r} e m = let (t, i) = stay_inside s a in record { same = ap state_of m ∙ t ∙ ap (λ o. stepped b o a) (sym e); within = rw m i }

  module _ (a : ℕ) {q r : Run} where
    pub step_start : q ≡ Start → r ≡ moved b (cell b first_at) a → Stepped b q a r
    step_start e m = step_by start a (ap state_of e) m

    pub step_at_lem : {k : ℕ} → q ≡ At k → r ≡ moved b (cell b (follow_at + k)) a → Stepped b q a r
    step_at_lem {k} e m = step_by (at k) a (ap state_of e) m

  pub end_start : {q : Run} → q ≡ Start → eqb (cell b no_child_at) 1 ≡ ended b (state_of q)
  end_start e = rw e

  pub end_at : {r : Bool} {q : Run} {k : ℕ} → q ≡ At k → r ≡ bit (cell b last_at) k → r ≡ ended b (state_of q)
  end_at e m = m ∙ rw e
