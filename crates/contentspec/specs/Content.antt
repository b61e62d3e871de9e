-- The content of an element in its block. Assumes nothing.
use Rattle.std.specs.Prelude.{◌≡◌, refl, Result, Ok, true, List, [], ◌∷◌, ◌++◌, ℕ, zero, suc, ◌+◌, ◌-◌, ◌≤◌, ◌<◌, leb, length, take, drop, replicate}
use Rattle.std.proofs.Math.Path.{ap}
use Rattle.std.proofs.Common.{◌∙◌, leb-true, le-leb}
use Rattle.std.proofs.Math.Bool.{and-eq-true_iff}
use native.Mathlib.Omega.{arith}
use Rattle.std.proofs.Math.Dec.{leb-zero}
use Rattle.paper.specs.Basics.{most_elements, between, all}
use Rattle.paper.specs.Schema.{Content, empty, text, model, stop, ok, numbers, most_symbols, content_as}
use Rattle.paper.specs.Table.{block_length, count_at, kind_number, content_numbers}
use Rattle.paper.specs.Codes.{number_of}
use Rattle.paper.specs.declared.Refusal.{Refusal}
use Rattle.numbers.specs.declared.Num.{Num}
use Rattle.reading.specs.Ended.{Went, Ended}
use Rattle.reading.specs.Number.{Value, Refused}
use Rattle.contentspec.specs.Symbols.{numbers_range}
use Rattle.contentspec.specs.Model.{InRange, Holds, NotTaken}

-- the content has the kind, and its numbers are in the block
pub record Cells (kind : ℕ) (block : List ℕ) (c : Content) : Type 0 where
  pub same_kind : kind_number c ≡ kind
  pub cells : block ≡ replicate count_at 0 ++ content_numbers c

abbrev pub ContentIn : ℕ → ℕ → List ℕ → ℕ → List ℕ → Result ℕ Refusal → Type 0
ContentIn E kind file at block = Ended (content_as E kind (drop at file)) file (λ next. next) (λ next. Cells kind block)

-- EMPTY and text only
pub content_plain : (E : ℕ) {kind : ℕ} (file : List ℕ) {at : ℕ} {b : List ℕ} → kind < 2 → at ≤ length file → b ≡ replicate block_length 0
    → Went (content_as E kind (drop at file)) file at (Cells kind b)
content_plain E {kind} file {at} {b} k h z = go kind k
  where
    go : (n : ℕ) → n < 2 → Went (content_as E n (drop at file)) file at (Cells n b)
    go zero i = record { value = empty; reads = refl; within = h; holds = record { same_kind = refl; cells = z } }
    go (suc zero) i = record { value = text; reads = refl; within = h; holds = record { same_kind = refl; cells = z } }
    go (suc (suc n)) i = absurd (omega arith)

-- symbols of E elements are symbols of 48
wider : (E : ℕ) (l : List ℕ) → E ≤ most_elements → all (between 0 (4 + E)) l ≡ true → InRange l
wider E [] h e = refl
wider E (x ∷ l) h e =
    let (p, q) = (and-eq-true_iff (between 0 (4 + E) x) (all (between 0 (4 + E)) l)).0 e in
    let k = leb-true x (4 + E) ((and-eq-true_iff (leb 0 x) (leb x (4 + E))).0 p).1 in
    rw (leb-zero x, le-leb x (4 + most_elements) (omega arith)) (wider E l h q)

module _ (E : ℕ) {kind : ℕ} (file : List ℕ) (at : ℕ) (low : kind ≤ 2) (high : 2 ≤ kind) where
  is_model : kind ≡ 2
  is_model = omega arith

  pub content_count : (e : Refusal) → Refused 1 most_symbols file at e → content_as E kind (drop at file) ≡ stop (number_of e)
  content_count e p = rw (is_model, p.stopped)

  module _ {n : Num} (counted : Value 1 most_symbols file at n) where
    pub content_symbols : (e : Refusal) → numbers n.value 0 (4 + E) (drop n.next file) ≡ stop (number_of e) → content_as E kind (drop at file) ≡ stop (number_of e)
    content_symbols e w = rw (is_model, counted.reads, w)

    module _ (w : Went (numbers n.value 0 (4 + E) (drop n.next file)) file (n.next + n.value) (λ l. l ≡ take n.value (drop n.next file))) where
      symbols : List ℕ
      symbols = take n.value (drop n.next file)

      symbols_read : numbers n.value 0 (4 + E) (drop n.next file) ≡ ok symbols (drop (n.next + n.value) file)
      unfolding symbols
      symbols_read = w.reads ∙ ap (λ l. ok l (drop (n.next + n.value) file)) w.holds

      -- the part of the file that is lent
      part : take (n.next + n.value - n.next) (drop n.next file) ≡ symbols
      unfolding symbols
      part = let d : n.next + n.value - n.next ≡ n.value = omega arith in rw d

      pub symbols_range : E ≤ most_elements → InRange (take (n.next + n.value - n.next) (drop n.next file))
      symbols_range h = rw part (wider E symbols h (numbers_range n.value 0 (4 + E) (drop n.next file) symbols_read))

      pub content_fault : (e : Refusal) → NotTaken (take (n.next + n.value - n.next) (drop n.next file)) e → content_as E kind (drop at file) ≡ stop (number_of e)
      content_fault e m = let k : NotTaken symbols e = rw part at m in rw (is_model, counted.reads, symbols_read) (k.refused (drop (n.next + n.value) file))

      pub content_model : {b : List ℕ} → Holds (take (n.next + n.value - n.next) (drop n.next file)) b
          → Went (content_as E kind (drop at file)) file (n.next + n.value) (Cells kind b)
      content_model {b} m =
          let o : Holds symbols b = rw part at m in
          rw is_model
          (record {
            value = model o.expr;
            reads = rw (counted.reads, symbols_read) (o.reads (drop (n.next + n.value) file));
            within = w.within;
            holds = record { same_kind = refl; cells = o.cells };
          })
