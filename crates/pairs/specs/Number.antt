-- Pairs as numbers. Assumes nothing.
use Rattle.std.specs.Prelude.{◌≡◌, refl, Bool, true, Option, Some, None, cond, not, ◌&&◌, ◌||◌, List, ℕ, suc, ◌+◌, ◌-◌, ◌*◌, ◌/◌, ◌%◌, ◌≤◌, ◌<◌, eqb}
use Rattle.std.proofs.Common.{◌∙◌, arith, ltb-true, ne_eqb}
use Rattle.std.proofs.Math.Path.{ap, ap₂}
use Rattle.std.proofs.Math.Option.{Option as Maybe, none, some}
use Rattle.paper.specs.Basics.{most_names}
use Rattle.paper.specs.Table.{cell, count_at}
use Rattle.paper.specs.Rules.{State, start, at, ended, goes_on}
use Rattle.table.specs.Run.{state_of, stepped, inside, Ready, Stepped}
use Rattle.table.specs.declared.Run.{Run}
use Rattle.table.specs.declared.Run.TheVariants.{Start, At, Lost}
use Rattle.inclusion_laws.specs.Pairs.{stops, run_number}

-- ---- runs

abbrev pub run_at : ℕ → Maybe State
run_at n = cond (eqb n 0) none (cond (eqb n 1) (some start) (some (at (n - 2))))

pub run_at_lem : (o : Maybe State) → run_at (run_number o) ≡ o
run_at_lem none = refl
run_at_lem (some start) = refl
run_at_lem (some (at k)) =
    let z : suc (suc k) - 2 ≡ k = omega arith in
    rw (ne_eqb (suc (suc k)) 0 (omega arith), ne_eqb (suc (suc k)) 1 (omega arith), z)

-- ---- pairs

abbrev pub old_at : ℕ → Maybe State
old_at p = run_at (p / 66 + 1)

abbrev pub new_at : ℕ → Maybe State
new_at p = run_at (p % 66)

-- both runs stand inside their blocks
pub record Paired (old new : List ℕ) (p : ℕ) : Type 0 where
  pub old_ready : Ready old
  pub new_ready : Ready new
  pub old_inside : inside old (old_at p) ≡ true
  pub new_inside : inside new (new_at p) ≡ true

-- the pair of two runs, the old one not lost
abbrev pub join_number : ℕ → ℕ → Option ℕ
join_number w i = cond (eqb w 0) None (Some ((w - 1) * 66 + i))

unfoldable pub leads_to : List ℕ → List ℕ → ℕ → ℕ → Option ℕ
leads_to old new p a = join_number (run_number (stepped old (old_at p) a)) (run_number (stepped new (new_at p) a))

-- ---- a run, as the code numbers it

pub run_lost : {n : ℕ} → n ≡ 0 → none ≡ run_at n
run_lost {n} e = rw e

pub run_start : {n : ℕ} → n ≡ 1 → some start ≡ run_at n
run_start {n} e = rw e

pub run_read : (n : ℕ) → ¬ (n ≡ 0) → ¬ (n ≡ 1) → some (at (n - 2)) ≡ run_at n
run_read n h k = rw (ne_eqb n 0 h, ne_eqb n 1 k)

pub number_at : {r : Run} {k : ℕ} → r ≡ At k → k + 2 ≡ run_number (state_of r)
number_at {r} {k} e = rw e (omega arith)

-- ---- what is asked at the calls, and the ways out

pub stops_is : (b : List ℕ) (o : Maybe State) {g x : Bool} → g ≡ goes_on o → x ≡ ended b o → g && (eqb (cell b 0) 0 || x) ≡ stops b o
stops_is b none e d = rw e
stops_is b (some start) e d = rw (e, d)
stops_is b (some (at k)) e d = rw (e, d)

module _ {old new : List ℕ} {p : ℕ} (g : Paired old new p) where
  pub old_run : (r : Run) → state_of r ≡ old_at p → Ready old × (inside old (state_of r) ≡ true)
  old_run r e = (g.old_ready, rw e g.old_inside)

  pub new_run : (r : Run) → state_of r ≡ new_at p → Ready new × (inside new (state_of r) ≡ true)
  new_run r e = (g.new_ready, rw e g.new_inside)

pub losing_is : (old new : List ℕ) (p : ℕ) (r q : Run) {x y : Bool} → state_of r ≡ old_at p → x ≡ stops old (state_of r)
    → state_of q ≡ new_at p → y ≡ stops new (state_of q) → x && not y ≡ stops old (old_at p) && not (stops new (new_at p))
losing_is old new p r q e c f d = ap₂ (λ a b. a && not b) (c ∙ ap (stops old) e) (d ∙ ap (stops new) f)

-- one step of a run, and its number
inside_small : (b : List ℕ) → cell b count_at ≤ most_names → (r : Run) → inside b (state_of r) ≡ true → run_number (state_of r) < 66
inside_small b few Start i = omega arith
inside_small b few (At k) i = let h = ltb-true k (cell b count_at) i in omega arith
inside_small b few Lost i = omega arith

pub stepped_small : {b : List ℕ} {q r : Run} {a : ℕ} → Ready b → Stepped b q a r → run_number (state_of r) < 66
stepped_small {b} {q} {r} g s = inside_small b g.few r s.within

stepped_is : (b : List ℕ) (q r : Run) (a : ℕ) {o : Maybe State} → state_of q ≡ o → Stepped b q a r → state_of r ≡ stepped b o a
stepped_is b q r a {o} e s = s.same ∙ ap (λ x. stepped b x a) e

module _ (old new : List ℕ) (p a : ℕ) (q r : Run) {w : ℕ} (e : state_of q ≡ old_at p) (d : Stepped old q a r) (n : w ≡ run_number (state_of r)) where
  was : w ≡ run_number (stepped old (old_at p) a)
  was = n ∙ ap run_number (stepped_is old q r a e d)

  -- the old run has no next occurrence
  pub leads_nowhere : w ≡ 0 → None ≡ leads_to old new p a
  unfolding leads_to
  leads_nowhere z = rw (← was, z)

  pub leads_on : (s t : Run) {i : ℕ} → state_of s ≡ new_at p → Stepped new s a t → i ≡ run_number (state_of t) → ¬ (w ≡ 0) → Some ((w - 1) * 66 + i) ≡ leads_to old new p a
  unfolding leads_to
  leads_on s t f g m z = (rw (ne_eqb w 0 z)) ∙ ap₂ join_number was (m ∙ ap run_number (stepped_is new s t a f g))
