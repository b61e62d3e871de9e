-- What the code computes of a pair's number is what the machine says of the pair. Assumes nothing.
use Rattle.std.specs.Prelude.{◌≡◌, true, Option, Some, None, not, ◌&&◌, List, ℕ, suc, ◌+◌, ◌/◌, ◌%◌}
use Rattle.std.proofs.Math.Path.{refl, ap₂}
use Rattle.std.proofs.Common.{◌∙◌, ap, arith, div-add-mod', lt-ltb, ne_eqb}
use Rattle.std.proofs.Math.Option.{Option as Maybe, none, some}
use Rattle.std.proofs.Math.Nat.{mul-add-div_right, div-eq_of_lt}
use Rattle.paper.specs.Table.{cell, count_at}
use Rattle.paper.specs.Rules.{State, start, at, move}
use Rattle.table.specs.Run.{stepped, inside, Ready}
use Rattle.inclusion_laws.specs.Pairs.{stops, Pair, state_number, run_number, Inside, InsideRun, pairs}
use Rattle.inclusion_laws.proofs.Pairs.{run_below}
use Rattle.pairs.specs.Number.{run_at, run_at_lem, old_at, new_at, Paired, join_number, leads_to}

inside_true : (b : List ℕ) (o : Maybe State) → InsideRun b o → inside b o ≡ true
inside_true b none i = refl
inside_true b (some start) i = refl
inside_true b (some (at k)) i = lt-ltb k (cell b count_at) i

-- a child's pair, or none
abbrev pub numbered : (old new : List ℕ) → Maybe Pair → Option ℕ
numbered old new none = None
numbered old new (some y) = Some ((pairs old new).number y)

-- x is a pair of runs of two blocks, and p its number
module _ (old new : List ℕ) (r : Ready old) (q : Ready new) (x : Pair) (i : Inside old x.was) (j : InsideRun new x.is) (p : ℕ) (e : p ≡ (pairs old new).number x) where
  quotient : p / 66 ≡ state_number x.was
  quotient =
      let h = run_below new q.few x.is j in
      ap (λ n. n / 66) e ∙ mul-add-div_right (omega arith) (state_number x.was) (run_number x.is) ∙ (rw (div-eq_of_lt h) (omega arith))

  remainder : p % 66 ≡ run_number x.is
  remainder = omega (arith, div-add-mod' p 66, quotient)

  old_at_lem : old_at p ≡ some x.was
  old_at_lem = let n : p / 66 + 1 ≡ run_number (some x.was) = omega (arith, quotient) in ap run_at n ∙ run_at_lem (some x.was)

  new_at_lem : new_at p ≡ x.is
  new_at_lem = ap run_at remainder ∙ run_at_lem x.is

  pub paired : Paired old new p
  paired = record {
    old_ready = r;
    new_ready = q;
    old_inside = ap (inside old) old_at_lem ∙ inside_true old (some x.was) i;
    new_inside = ap (inside new) new_at_lem ∙ inside_true new x.is j;
  }

  pub losing_pair : stops old (old_at p) && not (stops new (new_at p)) ≡ (pairs old new).losing x
  losing_pair = ap₂ (λ a b. stops old a && not (stops new b)) old_at_lem new_at_lem

  pub leads_pair : (a : ℕ) → leads_to old new p a ≡ numbered old new ((pairs old new).step x a)
  unfolding leads_to
  leads_pair a = ap₂ (λ s t. join_number (run_number (stepped old s a)) (run_number (stepped new t a))) old_at_lem new_at_lem ∙ go (move old x.was a)
    where
      go : (o : Maybe ℕ) → join_number (run_number (elim o [ none ↦ none | some k ↦ some (at k) ])) (run_number (stepped new x.is a))
          ≡ numbered old new (elim o as (λ z. Maybe Pair) [ none ↦ none | some k ↦ some (record { was = at k; is = stepped new x.is a }) ])
      go none = refl
      go (some k) = rw (ne_eqb (suc (suc k)) 0 (omega arith)) (ap Some (omega arith))
