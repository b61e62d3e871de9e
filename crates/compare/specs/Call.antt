-- The call's refusals in order, and its answer. Assumes nothing.
use Rattle.std.specs.Prelude.{◌≡◌, refl, Bool, true, false, Option, Some, None, Ok, Err, not, ◌||◌, List, ℕ, ◌≤◌, ◌<◌, eqb, length, get_or}
use Rattle.std.proofs.Math.Path.{sym}
use Rattle.std.proofs.Common.{◌∙◌, ap, ap₂, arith}
use borrow.Author.Tests.{lt-ltb, le-ltb, not-true, not-false}
use Rattle.paper.specs.Table.{table_length, block, cell, kind_at, proper}
use Rattle.paper.specs.Basics.{most_elements, sequence_places}
use Rattle.table_laws.specs.Parts.{table_parts}
use Rattle.table.specs.Run.{ready_table}
use Rattle.paper.specs.Rules.{of_table}
use Rattle.paper.specs.Inclusion.{comparable, answered, comparing, compare}
use Rattle.inclusion_laws.specs.Search.{searched}
use Rattle.inclusion_laws.specs.Pairs.{pairs}
use Rattle.inclusion_laws.proofs.Tables.{runnable}
use Rattle.inclusion_laws.proofs.Theorems.{computed}
use Rattle.paper.specs.declared.Refusal.TheVariants.{Room, Place, Table, NotCompared}
use Rattle.breadth.specs.Going.{Blocks}
use Rattle.breadth.specs.Outcome.{found_of}
use Rattle.compare.specs.Outcome.{outcome_of, compared_of}

-- the tests before place k held
module _ (old new : List ℕ) (e : ℕ) (s : List ℕ) where
  pub bad_old : {x : Bool} → x ≡ proper old → not x ≡ true → outcome_of (compared_of (Err Table)) s ≡ compare old new e s
  unfolding compare comparing
  bad_old {x} p t = rw (sym p ∙ not-true x t)

  pub bad_new : {x y : Bool} → x ≡ proper old → not x ≡ false → y ≡ proper new → not y ≡ true → outcome_of (compared_of (Err Table)) s ≡ compare old new e s
  unfolding compare comparing
  bad_new {x} {y} p t q u = rw (sym p ∙ not-false x t, sym q ∙ not-true y u)

  module _ (p : proper old ≡ true) (q : proper new ≡ true) where
    pub not_in_old : get_or old 0 0 ≤ e → outcome_of (compared_of (Err Place)) s ≡ compare old new e s
    unfolding compare comparing
    not_in_old h = rw (p, q, le-ltb e (get_or old 0 0) h)

    pub not_in_new : e < get_or old 0 0 → get_or new 0 0 ≤ e → outcome_of (compared_of (Err Place)) s ≡ compare old new e s
    unfolding compare comparing
    not_in_new h k = rw (p, q, lt-ltb e (get_or old 0 0) h, le-ltb e (get_or new 0 0) k)

    module _ (h : e < get_or old 0 0) (k : e < get_or new 0 0) where
      pub kind_of_old : {x : Bool} → x ≡ comparable (of_table old) e → not x ≡ true → outcome_of (compared_of (Err NotCompared)) s ≡ compare old new e s
      unfolding compare comparing
      kind_of_old {x} c t = rw (p, q, lt-ltb e (get_or old 0 0) h, lt-ltb e (get_or new 0 0) k, ← c, not-true x t)

      pub kind_of_new : {x y : Bool} → x ≡ comparable (of_table old) e → not x ≡ false → y ≡ comparable (of_table new) e → not y ≡ true
          → outcome_of (compared_of (Err NotCompared)) s ≡ compare old new e s
      unfolding compare comparing
      kind_of_new {x} {y} c t f u = rw (p, q, lt-ltb e (get_or old 0 0) h, lt-ltb e (get_or new 0 0) k, ← c, not-false x t, ← f, not-true y u)

      module _ {x y : Bool} (c : x ≡ comparable (of_table old) e) (t : not x ≡ false) (f : y ≡ comparable (of_table new) e) (u : not y ≡ false) where
        pub too_short : length s < sequence_places → outcome_of (compared_of (Err Room)) s ≡ compare old new e s
        unfolding compare comparing
        too_short l = rw (p, q, lt-ltb e (get_or old 0 0) h, lt-ltb e (get_or new 0 0) k, ← c, not-false x t, ← f, not-false y u, lt-ltb (length s) sequence_places l)

same : (o : Option ℕ) {s : List ℕ} → outcome_of (compared_of (Ok o)) s ≡ found_of o s
same None = refl
same (Some n) = refl

-- nothing is refused: what the search finds
pub found_out : (old new : List ℕ) (e : ℕ) (s : List ℕ) → proper old ≡ true → proper new ≡ true → e < get_or old 0 0 → e < get_or new 0 0
    → {x y : Bool} → x ≡ comparable (of_table old) e → not x ≡ false → y ≡ comparable (of_table new) e → not y ≡ false
    → {a b after : List ℕ} (f : Option ℕ) → a ≡ block old e → b ≡ block new e → sequence_places ≤ length s
    → found_of f after ≡ answered (searched (pairs a b) (get_or old 0 0) sequence_places) s
    → outcome_of (compared_of (Ok f)) after ≡ compare old new e s
unfolding compare comparing
found_out old new e s p q h k {x} {y} c t f u o i j l d =
    same o ∙ d ∙ ap₂ (λ a b. answered (searched (pairs a b) (get_or old 0 0) sequence_places) s) i j ∙ ap (λ o. answered o s) (sym (computed old new e p q h k))
    ∙ (rw (p, q, lt-ltb e (get_or old 0 0) h, lt-ltb e (get_or new 0 0) k, ← c, not-false x t, ← f, not-false y u, le-ltb (length s) sequence_places l))

-- what the search asks
pub blocks_of_lem : (old new : List ℕ) (e : ℕ) {a b : List ℕ} → proper old ≡ true → proper new ≡ true → e < get_or old 0 0 → e < get_or new 0 0
    → a ≡ block old e → b ≡ block new e → Blocks a b (get_or old 0 0)
blocks_of_lem old new e p q h k i j = record {
  old_ready = ready_table old e p h i;
  new_ready = ready_table new e q k j;
  new_elements = get_or new 0 0;
  old_run = rw i (runnable old e p h);
  new_run = rw j (runnable new e q k);
  some_names = omega arith;
  few = (table_parts old p).few_elements;
}

-- what a test of the code says
pub held : {x : Bool} (t : Bool) → x ≡ t → not x ≡ false → t ≡ true
held {x} t e h = sym e ∙ not-false x h

-- a proper table's first number is there, and small; an element below it has a block
pub has_first : (t : List ℕ) → proper t ≡ true → 0 < length t
has_first t p = omega (arith, (table_parts t p).long)

pub few_elements : (t : List ℕ) → proper t ≡ true → get_or t 0 0 ≤ most_elements
few_elements t p = (table_parts t p).few_elements

pub in_table : (t : List ℕ) (e : ℕ) → proper t ≡ true → e < get_or t 0 0 → (length t ≡ table_length) × (e < most_elements)
in_table t e p h = let q = table_parts t p in (q.long, omega (arith, q.few_elements))

pub compared_is : (t : List ℕ) (e : ℕ) {k : ℕ} → k ≡ cell (block t e) kind_at → eqb k 0 || eqb k 2 ≡ comparable (of_table t) e
compared_is t e d = rw d
