-- What is proved of the comparison of one element's content in two tables, in one place. Nothing here is new: each line cites the
-- module that proves it. Assumes nothing.
use Rattle.std.specs.Prelude.{◌≡◌, ◌↔◌, true, not, ◌&&◌, List, ℕ, ◌<◌, T, get_or}
use Rattle.paper.specs.Basics.{sequence_places}
use Rattle.paper.specs.Schema.{Schema}
use Rattle.paper.specs.Table.{block, proper}
use Rattle.paper.specs.Rules.{element_at, of_schema, of_table}
use Rattle.paper.specs.Inclusion.{ShortestOf, takes, Takes, lost, shortest_lost}
use Rattle.inclusion_laws.specs.Words.{Answer, only_one}
use Rattle.inclusion_laws.specs.Search.{searched, loses_by}
use Rattle.inclusion_laws.specs.Pairs.{Runnable, block_takes, pairs}
use Rattle.inclusion_laws.proofs.Pairs.{loses_lost}
use Rattle.inclusion_laws.proofs.Tables as tables
use Rattle.inclusion_laws.specs.Meaning as meaning

-- There is one shortest and lowest sequence at most.
pub unique : {L : List ℕ → Type 0} {u v : List ℕ} → ShortestOf L u → ShortestOf L v → u ≡ v
unique = only_one

-- What becomes of a sequence depends on the pair of states that it leads to alone.
pub by_pairs : (old new : List ℕ) (E F : ℕ) → Runnable E old → Runnable F new → (w : List ℕ)
    → loses_by (pairs old new) w ≡ block_takes old w && not (block_takes new w)
by_pairs = loses_lost

module _ (old new : List ℕ) (e : ℕ) (p : proper old ≡ true) (q : proper new ≡ true) (h : e < get_or old 0 0) (k : e < get_or new 0 0) where
  -- The search through pairs, each met once and names rising, computes what the definition looks for among all sequences.
  pub computed : shortest_lost (of_table old) (of_table new) e ≡ searched (pairs (block old e) (block new e)) (get_or old 0 0) sequence_places
  computed = tables.computed old new e p q h k

  -- Where there is no answer, nothing is lost. Else the answer is lost, none shorter is, and none of its length is lower; and it has fewer
  -- than 4,290 names.
  pub right : Answer sequence_places (lost (of_table old) (of_table new) e) (shortest_lost (of_table old) (of_table new) e)
  right = tables.right old new e p q h k

-- A schema's content takes what its expression means.
pub takes_means : (s : Schema) (e : ℕ) (w : List ℕ) → T (takes (of_schema s) e w) ↔ Takes (element_at s e).content w
takes_means = meaning.takes_means
