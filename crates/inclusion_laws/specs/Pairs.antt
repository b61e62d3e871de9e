-- The pairs of a run of the old block and a run of the new one. Assumes nothing.
use Rattle.std.specs.Prelude.{◌≡◌, Bool, false, cond, not, ◌&&◌, ◌||◌, List, ℕ, suc, ◌+◌, ◌*◌, ◌≤◌, ◌<◌, eqb}
use Rattle.std.proofs.Math.Option.{Option, none, some}
use Rattle.paper.specs.Basics.{null, most_names}
use Rattle.paper.specs.Table.{cell, kind_at, count_at, names_at}
use Rattle.paper.specs.Rules.{State, start, at, may_end, move, runs}
use Rattle.table.specs.Run.{stepped}
use Rattle.inclusion_laws.specs.Search.{Machine}

-- ---- one block

-- what the block of an element takes: `takes` of its table
abbrev pub block_takes : List ℕ → List ℕ → Bool
block_takes b w = cond (eqb (cell b kind_at) 0) (null w) (runs b w)

-- the children may end here: EMPTY has no child, so it stands at the start
abbrev pub stops : List ℕ → Option State → Bool
stops b none = false
stops b (some s) = eqb (cell b kind_at) 0 || may_end b s

-- what is asked of a block: names are below E, and EMPTY has none
pub record Runnable (E : ℕ) (b : List ℕ) : Type 0 where
  pub few_names : cell b count_at ≤ most_names
  pub names_below : (k : ℕ) → k < cell b count_at → cell b (names_at + k) < E
  pub no_names : cell b kind_at ≡ 0 → cell b count_at ≡ 0

-- ---- two blocks

pub record Pair : Type 0 where
  pub was : State
  pub is : Option State

abbrev pub state_number : State → ℕ
state_number start = 0
state_number (at k) = suc k

abbrev pub run_number : Option State → ℕ
run_number none = 0
run_number (some s) = suc (state_number s)

-- "65 of the old run and 66 of the new one"
abbrev pub pairs : (old new : List ℕ) → Machine
pairs old new = record {
  Pair = Pair;
  begin = record { was = start; is = some start };
  step = λ p a. elim (move old p.was a) [ none ↦ none | some k ↦ some (record { was = at k; is = stepped new p.is a }) ];
  losing = λ p. stops old (some p.was) && not (stops new p.is);
  number = λ p. state_number p.was * 66 + run_number p.is;
}

-- ---- the pairs that can be met

-- the occurrence read last is one of the block's
abbrev pub Inside : List ℕ → State → Type 0
Inside b start = Unit {0}
Inside b (at k) = k < cell b count_at

abbrev pub InsideRun : List ℕ → Option State → Type 0
InsideRun b none = Unit {0}
InsideRun b (some s) = Inside b s
