-- The whole schema in a table, and what is translated. Assumes nothing.
use Rattle.std.specs.Prelude.{◌≡◌, Result, Ok, Err, ℕ, ◌+◌, ◌-◌, ◌≤◌, ◌<◌, set, get_or, replicate}
use Rattle.std.proofs.Math.Path.{refl, ap, ap₂}
use Rattle.std.proofs.Common.{◌∙◌, arith, eq-eqb, ne_eqb, length-set, take_at}
use mathlib.Core.List.{List, [], ◌∷◌, ◌++◌, map, append-nil}
use Rattle.std.proofs.Math.ListN.{length, drop, length-append, length-drop, drop_of_length-le}
use Rattle.std.proofs.Math.Seq.{paste, take_all, drop-cons, drop-length}
use Rattle.paper.specs.Basics.{most_elements, concat, pad}
use Rattle.paper.specs.Schema.{Element, Schema, stop, elements_of, schema_of}
use Rattle.paper.specs.Table.{table_length, fixed_at, block_of, blocks_of, entries_from, fixed_numbers, table_of, translate}
use Rattle.copying.specs.Left.{copied_front}
use Rattle.paper.specs.Codes.{number_of}
use Rattle.paper.specs.declared.Refusal.{Refusal}
use Rattle.numbers.specs.declared.Num.{Num}
use Rattle.reading.specs.Ended.{Went, Ended}
use Rattle.reading.specs.Number.{Value, Refused, refused_below}
use Rattle.schema.specs.Elements.{Head, Blocks}

-- the two parts of a schema's table
pub record PartsOf (table fixed : List ℕ) (s : Schema) : Type 0 where
  pub blocks : table ≡ blocks_of s
  pub entered : fixed ≡ fixed_numbers (entries_from 0 s.elements)

abbrev pub SchemaIn : List ℕ → (table fixed : List ℕ) → Result Unit Refusal → Type 0
SchemaIn file table fixed = Ended (schema_of file) file (λ r. length file) (λ r. PartsOf table fixed)

-- ---- the schema

module _ (file : List ℕ) where
  -- the count, up to any bound that is high enough
  pub schema_count : (top : ℕ) → most_elements ≤ top → (x : Refusal) → Refused 1 top file 0 x → schema_of file ≡ stop (number_of x)
  unfolding schema_of
  schema_count top h x p = rw (refused_below 1 most_elements top file 0 h p)

  module _ {n : Num} (count : Value 1 most_elements file 0 n) where
    -- the root, up to any bound that is high enough
    pub schema_root : (top : ℕ) → n.value - 1 ≤ top → (x : Refusal) → Refused 0 top file n.next x → schema_of file ≡ stop (number_of x)
    unfolding schema_of
    schema_root top h x q = rw (count.reads, refused_below 0 (n.value - 1) top file n.next h q)

    module _ {r : Num} (root : Value 0 (n.value - 1) file n.next r) where
      pub schema_elements : (x : Refusal) → elements_of n.value n.value 0 (drop r.next file) ≡ stop (number_of x) → schema_of file ≡ stop (number_of x)
      unfolding schema_of
      schema_elements x w = rw (count.reads, root.reads, w)

      module _ {before after fixed : List ℕ} {next : ℕ} (elements : Went (elements_of n.value n.value 0 (drop r.next file)) file next (Blocks n.value before after fixed)) where
        pub schema_leftover : next < length file → schema_of file ≡ stop 2
        unfolding schema_of
        schema_leftover h = rw (count.reads, root.reads, elements.reads, drop-cons file next 0 h)

        pub schema_put : length file ≤ next → get_or before 0 0 ≡ n.value → get_or before 1 0 ≡ r.value → Went (schema_of file) file (length file) (PartsOf after fixed)
        unfolding schema_of
        schema_put v f g =
            let d : drop next file ≡ [] = drop_of_length-le file v in
            let l = elements.value in
            record {
              value = record { root = r.value; elements = l };
              reads = rw (count.reads, root.reads, elements.reads, d, drop-length file);
              within = omega arith;
              holds = record { blocks = elements.holds.cells ∙ cells l f g elements.holds.long; entered = elements.holds.entered };
            }
          where
            cells : {a b m k : ℕ} (l : List Element) → a ≡ m → b ≡ k → length l ≡ m
                → pad fixed_at (a ∷ b ∷ concat (map block_of l)) ≡ pad fixed_at (length l ∷ k ∷ concat (map block_of l))
            cells l f g h = rw (f, g, h)

-- the header in a table of zeros
module _ {t : List ℕ} (a b : ℕ) (z : t ≡ replicate fixed_at 0) where
  pub head_put : Head (set (set t 0 a) 1 b)
  head_put = rw z

  pub head_first : 0 < length t
  head_first = rw z (omega arith)

  pub head_second : 1 < length (set t 0 a)
  head_second = rw z (omega arith)

  pub head_count : get_or (set (set t 0 a) 1 b) 0 0 ≡ a
  head_count = rw z

  pub head_root : get_or (set (set t 0 a) 1 b) 1 0 ≡ b
  head_root = rw z

  pub head_kept : (after : List ℕ) → length after ≡ length (set (set t 0 a) 1 b) → length after ≡ length t
  head_kept after e = e ∙ length-set (set t 0 a) 1 b ∙ length-set t 0 a

-- no entries
pub no_entries : {f : List ℕ} → f ≡ replicate 49 0 → f ≡ fixed_numbers []
no_entries e = e

-- ---- the outcome

module _ (file table : List ℕ) where
  pub translate_length : (length table ≡ table_length → ⊥) → (13, table) ≡ translate file table
  unfolding translate
  translate_length h = rw (ne_eqb (length table) table_length h)

  module _ (h : length table ≡ table_length) where
    pub translate_fault : {k : ℕ} → schema_of file ≡ stop k → (k, table) ≡ translate file table
    unfolding translate
    translate_fault e = rw (eq-eqb (length table) table_length h, e)

    pub translate_done : {made fixed half after : List ℕ} → Went (schema_of file) file (length file) (PartsOf made fixed)
        → length made ≡ fixed_at → length fixed ≡ 49 → half ≡ paste table 0 (drop 0 made) fixed_at
        → after ≡ paste half fixed_at (drop 0 fixed) 49 → (0, after) ≡ translate file table
    unfolding translate table_of
    translate_done {made} {fixed} {half} {after} v l m d e =
        let first : half ≡ made ++ drop fixed_at table = copied_front table made fixed_at d ∙ ap (λ r. r ++ drop fixed_at table) (take_all fixed_at made (omega arith)) in
        let all : after ≡ made ++ fixed = e ∙ ap (λ r. paste r fixed_at fixed 49) first ∙ put (drop fixed_at table) (simp length-drop (omega arith)) in
        rw (eq-eqb (length table) table_length h, v.reads) (ap (λ t. (0, t)) (all ∙ ap₂ (λ a b. a ++ b) v.holds.blocks v.holds.entered))
      where
        put : (rest : List ℕ) → length rest ≡ 49 → paste (made ++ rest) fixed_at fixed 49 ≡ made ++ fixed
        put rest n =
            let c : length (made ++ rest) ≤ fixed_at + 49 = omega (arith, length-append made rest) in
            rw (take_at made rest fixed_at l, take_all 49 fixed (omega arith), drop_of_length-le (made ++ rest) {i = fixed_at + 49} c) (append-nil (made ++ fixed))
