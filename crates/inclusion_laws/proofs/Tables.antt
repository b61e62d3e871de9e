-- From two proper tables to their blocks: what the search finds is the right answer. Assumes nothing.
use Rattle.std.specs.Prelude.{◌≡◌, refl, Bool, ℕ, ◌≤◌, ◌<◌, eqb, drop, get_or}
use Rattle.std.proofs.Common.{sym, ◌∙◌, arith, eqb-true, get_or-drop}
use Rattle.std.proofs.Math.Bool.{true}
use Rattle.std.proofs.Math.Option.{Option, none, some}
use mathlib.Core.List.{List}
use Rattle.std.proofs.Math.Decide.{dec_lt}
use Rattle.paper.specs.Basics.{sequence_places}
use Rattle.paper.specs.Table.{block, cell, kind_at, count_at, proper}
use Rattle.paper.specs.Rules.{of_table}
use Rattle.paper.specs.Inclusion.{lost, shortest_lost}
use Rattle.paper_laws.specs.Basics.{all_at}
use Rattle.table_laws.specs.Parts.{block_parts, table_parts, name_below}
use Rattle.inclusion_laws.specs.Order.{Below}
use Rattle.inclusion_laws.specs.Words.{Answer, search_is}
use Rattle.inclusion_laws.specs.Search.{searched, loses_by}
use Rattle.inclusion_laws.specs.Invariant.{Sound}
use Rattle.inclusion_laws.proofs.Found.{lost_below, searched_right}
use Rattle.inclusion_laws.specs.Pairs.{Runnable, pairs}
use Rattle.inclusion_laws.proofs.Pairs.{loses_lost, sound}

-- ---- a block of a proper table

pub runnable : (t : List ℕ) (e : ℕ) → proper t ≡ true → e < get_or t 0 0 → Runnable (get_or t 0 0) (block t e)
runnable t e p h =
    let q = table_parts t p in
    let b : List ℕ = block t e in
    let parts = block_parts (get_or t 0 0) b (q.blocks e h) in
    let plain : cell b kind_at ≤ 1 → cell b count_at ≡ 0 = λ k.
    let z = all_at (eqb 0) refl (drop count_at b) (parts.plain k) 0 in
    sym (get_or-drop count_at b 0 0) ∙ sym (eqb-true 0 (get_or (drop count_at b) 0 0) z) in
    elim (dec_lt 1 (cell b kind_at)) [
      | yes k ↦ let m = (parts.modelled k).1 in
          record { few_names = m.few_names; names_below = name_below (get_or t 0 0) b q.some_elements m; no_names = λ z. plain (omega arith) }
      | no k ↦ let z = plain (omega arith) in
          record { few_names = omega arith; names_below = λ j i. absurd (omega arith); no_names = λ y. z }
    ]

-- ---- the answer

-- the right answer is right by an equal test
answer_same : (most : ℕ) (K L : List ℕ → Bool) → ((w : List ℕ) → K w ≡ L w) → (o : Option (List ℕ)) → Answer most K o → Answer most L o
answer_same most K L same none a = λ v t. a v (same v ∙ t)
answer_same most K L same (some w) (p, l) = (
  record {
    is_one = sym (same w) ∙ p.is_one;
    shortest = λ v t. p.shortest v (same v ∙ t);
    lowest = λ v t. p.lowest v (same v ∙ t);
  },
  l,
)

module _ (old new : List ℕ) (e : ℕ) (p : proper old ≡ true) (q : proper new ≡ true) (h : e < get_or old 0 0) (k : e < get_or new 0 0) where
  abbrev found : Option (List ℕ)
  found = searched (pairs (block old e) (block new e)) (get_or old 0 0) sequence_places

  is_sound : Sound (pairs (block old e) (block new e)) (get_or old 0 0) sequence_places
  is_sound = sound (get_or old 0 0) (get_or new 0 0) (block old e) (block new e) (runnable old e p h) (runnable new e q k) (omega arith)

  same : (w : List ℕ) → loses_by (pairs (block old e) (block new e)) w ≡ lost (of_table old) (of_table new) e w
  same = loses_lost (block old e) (block new e) (get_or old 0 0) (get_or new 0 0) (runnable old e p h) (runnable new e q k)

  found_right : Answer sequence_places (lost (of_table old) (of_table new) e) found
  found_right =
      answer_same sequence_places (loses_by (pairs (block old e) (block new e))) (lost (of_table old) (of_table new) e) same found
      (searched_right (pairs (block old e) (block new e)) (get_or old 0 0) sequence_places is_sound)

  pub computed : shortest_lost (of_table old) (of_table new) e ≡ found
  unfolding shortest_lost
  computed = search_is sequence_places (get_or old 0 0) (lost (of_table old) (of_table new) e) within found found_right
    where
      within : (v : List ℕ) → lost (of_table old) (of_table new) e v ≡ true → Below (get_or old 0 0) v
      within v t = lost_below (pairs (block old e) (block new e)) (get_or old 0 0) sequence_places is_sound v (pairs (block old e) (block new e)).begin (same v ∙ t)

  pub right : Answer sequence_places (lost (of_table old) (of_table new) e) (shortest_lost (of_table old) (of_table new) e)
  right = rw computed found_right
