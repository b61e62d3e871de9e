-- An element in its block. Assumes nothing.
use Rattle.std.specs.Prelude.{◌≡◌, refl, Result, true, false, List, ◌++◌, ℕ, ◌≤◌, ◌<◌, length, drop, set, replicate}
use Rattle.std.proofs.Common.{ap, ◌∙◌, arith, length-set}
use Rattle.paper.specs.Basics.{most_attributes}
use Rattle.paper.specs.Schema.{Content, Attribute, Element, stop, content_as, attributes_from, element}
use Rattle.paper.specs.Table.{block_length, entries, kind_at, allowed_at, required_at, id_at, idref_at, idrefs_at, count_at, kind_number, content_numbers, set_of, of_kind, is_required, block_of}
use Rattle.paper.specs.Codes.{number_of}
use Rattle.paper.specs.declared.Refusal.{Refusal}
use Rattle.numbers.specs.declared.Num.{Num}
use Rattle.reading.specs.Ended.{Went, Ended}
use Rattle.reading.specs.Number.{Value, Refused}
use Rattle.attlist.specs.declared.Attributes.{Attributes}
use Rattle.attlist.specs.Attributes.{SetsOf, EntriesOf}
use Rattle.contentspec.specs.Content.{Cells}

-- the block of an element, and the entries of its attributes behind those that were held
pub record BlockOf (e : ℕ) (block before after : List ℕ) (x : Element) : Type 0 where
  pub cells : block ≡ block_of x
  pub entered : EntriesOf e x.attributes before after

abbrev pub ElementIn : ℕ → ℕ → List ℕ → ℕ → (block before after : List ℕ) → Result ℕ Refusal → Type 0
ElementIn E e file at block before after =
    Ended (element E (length (entries before)) (drop at file)) file (λ next. next) (λ next. BlockOf e block before after)

-- the block with the kind and the sets
abbrev pub set_cells : ℕ → Attributes → List ℕ → List ℕ
set_cells kind s b =
    set (set (set (set (set (set b kind_at kind) allowed_at s.allowed) required_at s.required) id_at s.id) idref_at s.idref) idrefs_at s.idrefs

-- ---- stores

module _ (b : List ℕ) (h : length b ≡ block_length) (u v w x y : ℕ) where
  pub fifth_in : 4 < length (set (set (set (set b 0 u) 1 v) 2 w) 3 x)
  fifth_in = simp length-set (omega arith)

  pub sixth_in : 5 < length (set (set (set (set (set b 0 u) 1 v) 2 w) 3 x) 4 y)
  sixth_in = simp length-set (omega arith)

-- ---- the element

-- a block keeps its length
pub block_kept : (a b : List ℕ) → length a ≡ length b → b ≡ replicate block_length 0 → length a ≡ block_length
block_kept a b e z = e ∙ ap length z

cells_are : {kind : ℕ} {b : List ℕ} {c : Content} {l : List Attribute} {s : Attributes} → Cells kind b c → SetsOf l s
    → set_cells kind s b ≡ block_of (record { content = c; attributes = l })
cells_are {kind} {b} {c} {l} {s} p q = go p.cells p.same_kind q.allowed q.required q.id q.idref q.idrefs
  where
    go : {k u v w x y : ℕ} → b ≡ replicate count_at 0 ++ content_numbers c → kind_number c ≡ k → u ≡ set_of (λ a. true) l → v ≡ set_of is_required l
        → w ≡ set_of (of_kind 1) l → x ≡ set_of (of_kind 2) l → y ≡ set_of (of_kind 3) l
        → set (set (set (set (set (set b 0 k) 1 u) 2 v) 3 w) 4 x) 5 y ≡ block_of (record { content = c; attributes = l })
    go e f g h i j m = rw (e, ← f, g, h, i, j, m)

module _ (E e : ℕ) (file : List ℕ) (at : ℕ) (f : List ℕ) where
  pub element_kind : (x : Refusal) → Refused 0 2 file at x → element E (length (entries f)) (drop at file) ≡ stop (number_of x)
  element_kind x p = rw p.stopped

  module _ {k : Num} (kind : Value 0 2 file at k) where
    pub element_content : (x : Refusal) → content_as E k.value (drop k.next file) ≡ stop (number_of x) → element E (length (entries f)) (drop at file) ≡ stop (number_of x)
    element_content x q = rw (kind.reads, q)

    module _ {next : ℕ} {b : List ℕ} (content : Went (content_as E k.value (drop k.next file)) file next (Cells k.value b)) where
      pub element_count : (x : Refusal) → Refused 0 most_attributes file next x → element E (length (entries f)) (drop at file) ≡ stop (number_of x)
      element_count x u = rw (kind.reads, content.reads, u.stopped)

      module _ {n : Num} (count : Value 0 most_attributes file next n) where
        pub element_attributes : (x : Refusal) → attributes_from n.value 0 false (length (entries f)) (drop n.next file) ≡ stop (number_of x)
            → element E (length (entries f)) (drop at file) ≡ stop (number_of x)
        element_attributes x v = rw (kind.reads, content.reads, count.reads, v)

        pub element_put : {s : Attributes} {a g : List ℕ}
            → Went (attributes_from n.value 0 false (length (entries f)) (drop n.next file)) file s.next (λ l. SetsOf l s × EntriesOf e l f g)
            → a ≡ set_cells k.value s b → Went (element E (length (entries f)) (drop at file)) file s.next (BlockOf e a f g)
        element_put l d = record {
          value = record { content = content.value; attributes = l.value };
          reads = rw (kind.reads, content.reads, count.reads, l.reads);
          within = l.within;
          holds = record { cells = d ∙ cells_are content.holds l.holds.0; entered = l.holds.1 };
        }
