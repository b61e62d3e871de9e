-- The elements in a table, one block after another. Assumes nothing.
use Rattle.std.specs.Prelude.{◌≡◌, refl, Result, List, [], ◌∷◌, ◌++◌, map, ℕ, zero, suc, ◌+◌, ◌-◌, ◌*◌, ◌≤◌, ◌<◌, length, take, drop, get_or, replicate}
use Rattle.std.proofs.Common.{sym, ap, ap₂, ◌∙◌, append_assoc, append-nil, arith, length-append, take_at, drop_at}
use borrow.Rule.Slice.PartMut.{put_mid, same_len_mid}
use Rattle.std.proofs.lemmas.List.{length-replicate, replicate-append-replicate}
use Rattle.paper.specs.Basics.{most_elements, concat, pad}
use Rattle.paper.specs.Schema.{fixed_in, Element, stop, ok, element, elements_of}
use Rattle.paper.specs.Table.{fixed_at, block_length, entries, block_of, entries_of, entries_from, fixed_numbers}
use Rattle.table_laws.specs.Accepted.{length_entries}
use Rattle.entries.specs.Held.{Held, held_entries, held_of}
use Rattle.paper.specs.Codes.{number_of}
use Rattle.paper.specs.declared.Refusal.{Refusal}
use Rattle.reading.specs.Ended.{Went, Ended, prefixed, prefixed_none, prefixed_more}
use Rattle.schema.specs.Element.{BlockOf}

-- two numbers, and zeros after them
abbrev pub Head : List ℕ → Type 0
Head t = t ≡ get_or t 0 0 ∷ get_or t 1 0 ∷ replicate (fixed_at - 2) 0

-- the blocks of n elements stand after the two numbers, and their fixed attributes are the entries
pub record Blocks (n : ℕ) (before after fixed : List ℕ) (l : List Element) : Type 0 where
  pub long : length l ≡ n
  pub cells : after ≡ pad fixed_at (get_or before 0 0 ∷ get_or before 1 0 ∷ concat (map block_of l))
  pub entered : fixed ≡ fixed_numbers (entries_from 0 l)

abbrev pub ElementsIn : ℕ → List ℕ → ℕ → (before after fixed : List ℕ) → Result ℕ Refusal → Type 0
ElementsIn E file at before after fixed = Ended (elements_of E E 0 (drop at file)) file (λ next. next) (λ next. Blocks E before after fixed)

-- ---- zeros

module _ (k n : ℕ) (h : k ≤ n) where
  split : ◌≡◌ {A = List ℕ} (replicate n 0) (replicate k 0 ++ replicate (n - k) 0)
  split = let d : n ≡ k + (n - k) = omega arith in ap (λ m. replicate m 0) d ∙ sym (replicate-append-replicate k (n - k) 0)

  zeros_front : take {A = ℕ} k (replicate n 0) ≡ replicate k 0
  zeros_front = ap (take {A = ℕ} k) split ∙ take_at (replicate k 0) (replicate (n - k) 0) k (length-replicate k 0)

  zeros_after : drop {A = ℕ} k (replicate n 0) ≡ replicate (n - k) 0
  zeros_after = ap (drop {A = ℕ} k) split ∙ drop_at (replicate k 0) (replicate (n - k) 0) k (length-replicate k 0)

-- ---- one block after another

-- the two numbers, the blocks c, and zeros
abbrev tabled : ℕ → ℕ → List ℕ → ℕ → List ℕ
tabled a b c n = a ∷ b ∷ (c ++ replicate n 0)

blocks_last : (l : List Element) (x : Element) → concat (map block_of (l ++ x ∷ [])) ≡ concat (map block_of l) ++ block_of x
blocks_last [] x = append-nil (block_of x)
blocks_last (y ∷ l) x = ap (λ r. block_of y ++ r) (blocks_last l x) ∙ sym (append_assoc (block_of y) (concat (map block_of l)) (block_of x))

-- where the part of the table for the next block begins
module _ (a b : ℕ) (c : List ℕ) (n s k : ℕ) (begin : s ≡ suc (suc (length c))) (size : k ≡ block_length) (room : block_length ≤ n) where
  part_zeros : take k (drop s (tabled a b c n)) ≡ replicate block_length 0
  part_zeros = rw (begin, size, drop_at c (replicate n 0) (length c) refl) (zeros_front block_length n room)

  part_put : (y : List ℕ) → put_mid s k (tabled a b c n) y ≡ tabled a b (c ++ y) (n - block_length)
  part_put y =
      rw (begin, size, take_at c (replicate n 0) (length c) refl, drop_at c (replicate n 0) (length c) refl, zeros_after block_length n room)
      (ap (λ r. a ∷ b ∷ r) (sym (append_assoc c y (replicate (n - block_length) 0))))

entries_last : (e : ℕ) (l : List Element) (x : Element) → entries_from e (l ++ x ∷ []) ≡ entries_from e l ++ entries_of (e + length l) x.attributes
entries_last e [] x = let z : e + 0 ≡ e = omega arith in rw z (append-nil (entries_of e x.attributes))
entries_last e (y ∷ l) x =
    let z : suc e + length l ≡ e + suc (length l) = omega arith in
    ap (λ r. entries_of e y.attributes ++ r) (entries_last (suc e) l x ∙ ap (λ k. entries_from (suc e) l ++ entries_of k x.attributes) z)
    ∙ sym (append_assoc (entries_of e y.attributes) (entries_from (suc e) l) (entries_of (e + suc (length l)) x.attributes))

-- the blocks of i elements are put, those that stand before a place of the file, and their entries are held
pub record Laying (E : ℕ) (file : List ℕ) (at : ℕ) (before : List ℕ) (place start i : ℕ) (table fixed : List ℕ) : Type 0 where
  pub l : List Element
  pub few : i ≤ E
  pub within : place ≤ length file
  pub begin : start ≡ 2 + i * block_length
  pub long : length l ≡ i
  pub size : length (concat (map block_of l)) ≡ i * block_length
  pub same : elements_of E E 0 (drop at file) ≡ prefixed l (elements_of (E - i) E (length (entries fixed)) (drop place file))
  pub cells : table ≡ tabled (get_or before 0 0) (get_or before 1 0) (concat (map block_of l)) (fixed_at - 2 - i * block_length)
  pub held : Held fixed
  pub entered : entries fixed ≡ entries_from 0 l

module _ (E : ℕ) (file : List ℕ) (at : ℕ) (before : List ℕ) where
  pub lay_none : {fixed : List ℕ} → at ≤ length file → Head before → fixed ≡ fixed_numbers [] → Laying E file at before at 2 0 before fixed
  lay_none {fixed} h e f =
      let b : E - 0 ≡ E = omega arith in
      record {
        l = [];
        few = omega arith;
        within = h;
        begin = omega arith;
        long = refl;
        size = omega arith;
        same = rw (b, held_entries [] f) (prefixed_none (elements_of E E 0 (drop at file)));
        cells = e;
        held = held_of [] (omega arith) f;
        entered = held_entries [] f;
      }

  module _ {place start i : ℕ} {table fixed : List ℕ} (t : Laying E file at before place start i table fixed) (few : E ≤ most_elements) where
    pub lay_length : length table ≡ fixed_at
    lay_length = ap length t.cells ∙ omega (arith, length-append (concat (map block_of t.l)) (replicate (fixed_at - 2 - i * block_length) 0), length-replicate (fixed_at - 2 - i * block_length) zero, t.size, t.few)

    pub lay_fixed : {none : List ℕ} → none ≡ fixed_numbers [] → length fixed ≡ length none
    lay_fixed e = t.held.long ∙ sym (ap length e)

    pub lay_left : {none : List ℕ} (g : List ℕ) → length g ≡ length fixed → none ≡ fixed_numbers [] → length g ≡ length none
    lay_left g h e = h ∙ lay_fixed e

    pub lay_kept : Head before → length table ≡ length before
    lay_kept e = lay_length ∙ sym (ap length e)

    pub lay_end : E ≤ i → Went (elements_of E E 0 (drop at file)) file place (Blocks E before table fixed)
    lay_end h =
        let d : i ≡ E = let f = t.few in omega arith in
        let z : E - i ≡ 0 = omega arith in
        let m : fixed_at - 2 - i * block_length ≡ fixed_at - suc (suc (length (concat (map block_of t.l)))) = omega (arith, t.size) in
        record {
          value = t.l;
          reads = t.same ∙ rw z (ap (λ l. ok l (drop place file)) (append-nil t.l));
          within = t.within;
          holds = record {
            long = t.long ∙ d;
            cells = t.cells ∙ ap (λ n. get_or before 0 0 ∷ get_or before 1 0 ∷ (concat (map block_of t.l) ++ replicate n 0)) m;
            entered = t.held.same ∙ ap fixed_numbers t.entered;
          };
        }

    module _ (h : i < E) where
      starts : start ≡ suc (suc (length (concat (map block_of t.l))))
      starts = omega (arith, t.begin, t.size)

      pub lay_room : start + block_length ≤ length table
      lay_room = omega (arith, lay_length, t.begin)

      pub lay_zeros : take (start + block_length - start) (drop start table) ≡ replicate block_length 0
      lay_zeros =
          rw t.cells
          (part_zeros (get_or before 0 0) (get_or before 1 0) (concat (map block_of t.l)) (fixed_at - 2 - i * block_length) start (start + block_length - start) starts (omega arith) (omega arith))

      pub lay_same : (y : List ℕ) → length y ≡ length (take (start + block_length - start) (drop start table)) → Head before
          → length (put_mid start (start + block_length - start) table y) ≡ length before
      lay_same y k e = same_len_mid start (start + block_length - start) table y k ∙ lay_kept e

      left : E - i ≡ suc (E - (i + 1))
      left = omega arith

      pub lay_stop : (x : Refusal) → element E (length (entries fixed)) (drop place file) ≡ stop (number_of x) → elements_of E E 0 (drop at file) ≡ stop (number_of x)
      lay_stop x w = t.same ∙ rw (left, w)

      module _ {next : ℕ} {y g : List ℕ} (v : Went (element E (length (entries fixed)) (drop place file)) file next (BlockOf i y fixed g)) where
        pub lay_more : length y ≡ length (take (start + block_length - start) (drop start table))
            → Laying E file at before next (start + block_length) (i + 1) (put_mid start (start + block_length - start) table y) g
        lay_more k =
            let size : length y ≡ block_length = k ∙ ap length lay_zeros ∙ length-replicate block_length zero in
            let more : concat (map block_of (t.l ++ v.value ∷ [])) ≡ concat (map block_of t.l) ++ y = blocks_last t.l v.value ∙ ap (λ b. concat (map block_of t.l) ++ b) (sym v.holds.cells) in
            let n : fixed_at - 2 - i * block_length - block_length ≡ fixed_at - 2 - (i + 1) * block_length = omega arith in
            let es = entries fixed ++ entries_of i v.value.attributes in
            let now : entries g ≡ es = held_entries es v.holds.entered.added in
            let met : length (entries g) ≡ length (entries fixed) + fixed_in v.value.attributes
            = ap length now ∙ length-append (entries fixed) (entries_of i v.value.attributes) ∙ ap (λ k. length (entries fixed) + k) (length_entries i v.value.attributes) in
            let place : 0 + length t.l ≡ i = omega (arith, t.long) in
            record {
              l = t.l ++ v.value ∷ [];
              few = omega arith;
              within = v.within;
              begin = omega (arith, t.begin);
              long = omega (arith, length-append t.l (v.value ∷ []), t.long);
              size = ap length more ∙ omega (arith, length-append (concat (map block_of t.l)) y, t.size, size);
              same =
                  t.same
                  ∙ rw (left, v.reads, met) (prefixed_more t.l v.value (elements_of (E - (i + 1)) E (length (entries fixed) + fixed_in v.value.attributes) (drop next file)));
              cells =
                  ap (λ r. put_mid start (start + block_length - start) r y) t.cells
                  ∙ part_put (get_or before 0 0) (get_or before 1 0) (concat (map block_of t.l)) (fixed_at - 2 - i * block_length) start (start + block_length - start) starts (omega arith) (omega arith) y
                  ∙ ap₂ (λ c m. tabled (get_or before 0 0) (get_or before 1 0) c m) (sym more) n;
              held = held_of es v.holds.entered.few v.holds.entered.added;
              entered =
                  now ∙ ap₂ (λ r k. r ++ entries_of k v.value.attributes) t.entered (sym place)
                  ∙ sym (entries_last 0 t.l v.value);
            }
