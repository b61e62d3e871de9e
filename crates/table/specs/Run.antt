-- The run of a block's model over the names of children, one child at a time. Assumes nothing.
use Rattle.std.specs.Prelude.{◌≡◌, refl, Bool, true, List, [], ◌∷◌, ℕ, ◌+◌, ◌≤◌, ◌<◌, ltb, eqb, length, take, drop, get_or}
use Rattle.std.proofs.Common.{sym, ◌∙◌, arith, eqb-true, get_or-drop}
use Rattle.std.proofs.Math.Option.{Option, none, some}
use Rattle.std.proofs.Math.Decide.{dec_lt}
use Rattle.paper.specs.Basics.{all, most_names}
use Rattle.paper.specs.Table.{block_length, block, cell, kind_at, count_at, first_at, names_at, follow_at, zeros, proper_next, proper_block, proper}
use Rattle.paper.specs.Rules.{State, start, at, move, run_from}
use Rattle.paper_laws.specs.Basics.{all_at}
use Rattle.table_laws.specs.Parts.{ProperModel, block_parts, table_parts}
use Rattle.table.specs.Block.{block_length_lem}
use Rattle.table.specs.declared.Run.{Run}
use Rattle.table.specs.declared.Run.TheVariants.{Start, At, Lost}

-- where a run stands; none: a child had no next occurrence
abbrev pub state_of : Run → Option State
state_of Start = some start
state_of (At k) = some (at k)
state_of Lost = none

-- the state after one more child
abbrev pub stepped : List ℕ → Option State → ℕ → Option State
stepped b none a = none
stepped b (some s) a = run_from b s (a ∷ [])

-- the occurrence that was read last is one of the block's
abbrev pub inside : List ℕ → Option State → Bool
inside b none = true
inside b (some start) = true
inside b (some (at k)) = ltb k (cell b count_at)

-- the set is of the block's occurrences, and no two in it have one name
abbrev pub sound : List ℕ → ℕ → Bool
sound b w = proper_next (cell b count_at) (take (cell b count_at) (drop names_at b)) w

-- what a run asks of a block
pub record Ready (b : List ℕ) : Type 0 where
  pub long : length b ≡ block_length
  pub few : cell b count_at ≤ most_names
  pub first_set : sound b (cell b first_at) ≡ true
  pub follow_sets : all (sound b) (take (cell b count_at) (drop follow_at b)) ≡ true

-- r is the run q after the child a
pub record Stepped (b : List ℕ) (q : Run) (a : ℕ) (r : Run) : Type 0 where
  pub same : state_of r ≡ stepped b (state_of q) a
  pub within : inside b (state_of r) ≡ true

-- ---- children one after the other

-- the run from a state on, where there is one
abbrev pub onward : List ℕ → Option State → List ℕ → Option State
onward b none w = none
onward b (some s) w = run_from b s w

pub onward_step : (b : List ℕ) (o : Option State) (a : ℕ) (w : List ℕ) → onward b (stepped b o a) w ≡ onward b o (a ∷ w)
onward_step b none a w = refl
onward_step b (some s) a w = go (move b s a)
  where
    go : (o : Option ℕ) → onward b (elim o [ none ↦ none | some k ↦ some (at k) ]) w ≡ elim o [ none ↦ none | some k ↦ run_from b (at k) w ]
    go none = refl
    go (some k) = refl

-- ---- a block of a proper table, of any kind, can be run

-- kinds 0 and 1 have no occurrence
ready_plain : (b : List ℕ) → length b ≡ block_length → zeros (drop count_at b) ≡ true → Ready b
ready_plain b long z =
    let none : (k : ℕ) → cell b (count_at + k) ≡ 0 = λ k. sym (get_or-drop count_at b k 0) ∙ sym (eqb-true 0 (get_or (drop count_at b) k 0) (all_at (eqb 0) refl (drop count_at b) z k)) in
    record {
      long = long;
      few = rw (none 0) (omega arith);
      first_set = rw (none 0, none 2);
      follow_sets = rw (none 0);
    }

ready_model : (E : ℕ) (b : List ℕ) → length b ≡ block_length → ProperModel E b → Ready b
ready_model E b long m = record { long = long; few = m.few_names; first_set = m.first_set; follow_sets = m.follow_sets }

ready_block : (E : ℕ) (b : List ℕ) → length b ≡ block_length → proper_block E b ≡ true → Ready b
ready_block E b long e =
    let p = block_parts E b e in
    elim (dec_lt 1 (cell b kind_at)) [ yes h ↦ ready_model E b long (p.modelled h).1 | no h ↦ ready_plain b long (p.plain (omega arith)) ]

pub ready_table : (t : List ℕ) (e : ℕ) {b : List ℕ} → proper t ≡ true → e < get_or t 0 0 → b ≡ block t e → Ready b
ready_table t e {b} p h s =
    let q = table_parts t p in
    ready_block (get_or t 0 0) b (block_length_lem t e s q.long (omega arith)) (rw s (q.blocks e h))
