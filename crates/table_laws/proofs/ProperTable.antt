-- The table of a schema that was read is proper. Assumes nothing.
use Rattle.std.specs.Prelude.{◌≡◌, refl, Bool, true, ◌&&◌, List, ◌∷◌, ◌++◌, map, drop, replicate}
use Rattle.std.proofs.Common.{◌∙◌, drop_at}
use Rattle.std.proofs.Math.Path.{ap, subst}
use Rattle.std.proofs.Math.Bool.{false, not}
use Prim.Native.Nat.{ℕ, suc, ◌+◌, ◌-◌, ◌*◌, ◌≤◌, ◌<◌}
use native.Mathlib.Omega.{arith}
use borrow.Author.Tests.{le-leb, lt-ltb, eqb-true, eq-eqb, ne_eqb}
use Rattle.std.proofs.Math.Dec.{eqb}
use Rattle.std.proofs.Math.ListN.{length, length-append}
use Rattle.paper.specs.Basics.{most_number, most_elements, most_fixed, all, some_of, concat}
use Rattle.paper.specs.Schema.{Attribute, is_fixed, Element, Schema}
use Rattle.paper.specs.Table.{table_length, block_length, fixed_at, allowed_at, required_at, id_at, idref_at, idrefs_at, block, cell, Entry, entry_length, set_of, of_kind, is_required, block_of, blocks_of, entries_from, entry_numbers, fixed_numbers, table_of}
use Rattle.paper.specs.Table.{zeros, proper_block, rising_from, proper_entry, proper_fixed, proper}
use Rattle.paper.specs.Rules.{element_at}
use Rattle.paper.specs.Sets.{bit}
use Rattle.basic_laws.specs.Bools.{both}
use Rattle.paper_laws.specs.Basics.{length_pad, every_iff}
use Rattle.table_laws.specs.SameRules.{FineAll, L, length_L, length_all, blocks_part, fixed_part_lem, block_in, set_same}
use Rattle.table_laws.specs.Accepted.{Rising, Fixes, fixed_fine, GoodSchema}
use Rattle.table_laws.specs.Entries.{entries_back, length_numbers, all_entries}
use Rattle.table_laws.proofs.Entries.{rising_entries}
use Rattle.table_laws.proofs.ProperSets.{at_own}
use Rattle.table_laws.specs.ProperTable.{zeros_replicate, block_proper, fine_all, good_at}

module _ (s : Schema) (g : GoodSchema s) where
  abbrev E : ℕ
  E = length s.elements

  fine : FineAll s.elements
  fine = fine_all g.elements_all

  few : length s.elements ≤ most_elements
  few = g.few_elements

  abbrev es : List Entry
  es = entries_from 0 s.elements

  abbrev N : List ℕ
  N = concat (map entry_numbers es)

  few_numbers : length N ≤ most_fixed * entry_length
  few_numbers = omega (arith, length_numbers es, g.few_fixed)

  long : length (table_of s) ≡ table_length
  unfolding table_of
  long =
      length-append (blocks_of s) (fixed_numbers es)
      ∙ omega (arith, length_all s fine few, length_pad (most_fixed * entry_length) N few_numbers)

  -- an entry names an attribute of its element, and that one alone has its number
  entry_proper : (k : ℕ) → k < E → (u v : List Attribute) (y : Attribute) → (element_at s k).attributes ≡ u ++ y ∷ v → is_fixed y ≡ true
      → proper_entry (table_of s) (record { element = k; attribute = y.number; value = y.value }) ≡ true
  unfolding proper_entry table_of
  entry_proper k h u v y q t =
      let x = element_at s k in
      let own = good_at E s.elements g.elements_all k h in
      let (cdata, low) = fixed_fine u v y (subst Fixes q own.fixes) t in
      let status = eqb-true y.status 2 t in
      let rising = subst (Rising 0 false) q own.rising in
      let at : (i : ℕ) (P : Attribute → Bool) → ((x : Element) → cell (block_of x) i ≡ set_of P x.attributes) → bit (cell (block (table_of s) k) i) y.number ≡ P y
      = λ i P p. set_same s fine few i P p k y.number ∙ ap (λ l. some_of (λ z. P z && eqb y.number z.number) l) q ∙ at_own P u v y 0 false rising in
      both (both (both (both (both (both
      (lt-ltb k E h)
      (at allowed_at (λ z. true) (λ x. refl)))
      (ap not (at required_at is_required (λ x. refl) ∙ ne_eqb y.status 0 (λ z. omega arith))))
      (ap not (at id_at (of_kind 1) (λ x. refl) ∙ ne_eqb y.kind 1 (λ z. omega arith))))
      (ap not (at idref_at (of_kind 2) (λ x. refl) ∙ ne_eqb y.kind 2 (λ z. omega arith))))
      (ap not (at idrefs_at (of_kind 3) (λ x. refl) ∙ ne_eqb y.kind 3 (λ z. omega arith))))
      (le-leb y.value most_number low)

  fixed_proper : proper_fixed (table_of s) (fixed_numbers es) ≡ true
  unfolding proper_fixed
  fixed_proper =
      both (both (both
      (le-leb (length es) most_fixed g.few_fixed)
      (ap (rising_from 0 0) (entries_back es) ∙ rising_entries E 0 s.elements g.elements_all))
      (ap (all (proper_entry (table_of s))) (entries_back es)
      ∙ all_entries (proper_entry (table_of s)) 0 s.elements
      (λ k h u v y q t. let z : 0 + k ≡ k = omega arith in rw z (entry_proper k h u v y q t))))
      (let z : 1 + length es * entry_length ≡ suc (length es * entry_length) = omega arith in
      rw z (ap zeros (drop_at N (replicate (most_fixed * entry_length - length N) 0) (length es * entry_length) (length_numbers es)) ∙ zeros_replicate (most_fixed * entry_length - length N)))

  -- The table of a schema that was read is proper.
  pub table_proper : proper (table_of s) ≡ true
  unfolding proper table_of
  table_proper =
      both (both (both (both (both
      (eq-eqb (length (table_of s)) table_length long)
      (both (le-leb 1 E g.some_elements) (le-leb E most_elements g.few_elements)))
      (lt-ltb s.root E g.root_below))
      ((every_iff (λ e. proper_block E (block (table_of s) e)) E).1 (λ e h. ap (proper_block E) (block_in s fine few e h) ∙ block_proper E (element_at s e) (good_at E s.elements g.elements_all e h))))
      (ap (λ t. zeros (drop (2 + E * block_length) t)) (blocks_part s fine few)
      ∙ ap zeros (drop_at (L s fine few) (replicate (fixed_at - length (L s fine few)) 0) (2 + E * block_length) (length_L s fine few))
      ∙ zeros_replicate (fixed_at - length (L s fine few))))
      (ap (proper_fixed (table_of s)) (fixed_part_lem s fine few) ∙ fixed_proper)
