-- The table of a schema judges as the schema's expressions do: the rules read from the one are the rules read from the other.
-- Assumes nothing.
use Rattle.std.specs.Prelude.{◌≡◌, refl, Bool, true, List, [], ◌∷◌, ◌++◌, map, drop, get_or, replicate}
use Rattle.std.proofs.Common.{sym, ap₂, ◌∙◌, append_assoc, not-suc-le-zero, le_of_suc-le-suc, length-append, drop-drop, get_or-drop}
use Rattle.std.proofs.Math.Path.{ap}
use Prim.Native.Nat.{ℕ, zero, suc, ◌+◌, ◌-◌, ◌*◌, ◌≤◌, ◌<◌}
use native.Mathlib.Omega.{arith}
use Rattle.std.proofs.Math.Decide.{dec_lt}
use Rattle.std.proofs.Math.ListN.{length, take, get_or-eq_default}
use Rattle.std.proofs.lemmas.List.{length-replicate, length-map}
use Rattle.std.proofs.Math.Seq.{take_at, drop_at}
use Rattle.paper.specs.Basics.{most_elements, most_names, from, pad, concat}
use Rattle.paper.specs.Expressions.{Expr, names, count}
use Rattle.paper.specs.Sets.{bit, follow_word}
use Rattle.paper.specs.Schema.{Attribute, Content, empty, text, model, Element, Schema}
use Rattle.paper.specs.Table.{fixed_at, block_length, kind_at, allowed_at, required_at, id_at, idref_at, idrefs_at, count_at, no_child_at, block, cell, fixed_part, entries, kind_number, set_of, of_kind, is_required, content_numbers, block_of, blocks_of, entries_from, fixed_numbers, table_of}
use Rattle.paper.specs.Rules.{undeclared, element_at, has, fixed_to, fixed_by, described_by, begun_by, of_schema, start, run_from, runs, goes_on, of_table}
use Rattle.paper_laws.specs.Words.{bit_zero}
use Rattle.paper_laws.specs.Basics.{length_pad, length_from}
use Rattle.content_laws.specs.Names.{length_names}
use Rattle.table_laws.specs.Entries.{entries_back, fixed_same}
use Rattle.table_laws.specs.Blocks.{set_bit, Fine, runs_matches, goes_begins, runs_none, goes_none}

-- ---- the blocks of a table

-- what the translator takes: each model is fine, and there are at most 48 elements
pub record FineElement (x : Element) : Type 0 where
  pub fine : (e : Expr) → x.content ≡ model e → Fine e

pub data FineAll : List Element → Type 0 where
  none_left : FineAll []
  one_more : {x : Element} {l : List Element} → FineElement x → FineAll l → FineAll (x ∷ l)

length_content : (c : Content) → ((e : Expr) → c ≡ model e → Fine e) → length (content_numbers c) ≡ 132
length_content empty h = length-replicate {A = ℕ} 132 0
length_content text h = length-replicate {A = ℕ} 132 0
length_content (model e) h =
    let f = h e refl in
    let p : length (names e) ≤ most_names = let s = f.small in omega (arith, length_names e) in
    let n : length (map (follow_word 0 e) (from 0 (count e))) ≤ most_names = let s = f.small in omega (arith, length-map (from 0 (count e)) (follow_word 0 e), length_from 0 (count e)) in
    let q = length-append (pad most_names (names e)) (pad most_names (map (follow_word 0 e) (from 0 (count e)))) in
    omega (arith, q, length_pad most_names (names e) p, length_pad most_names (map (follow_word 0 e) (from 0 (count e))) n)

pub length_block : (x : Element) → FineElement x → length (block_of x) ≡ block_length
length_block x f = let h = length_content x.content f.fine in omega arith

length_blocks : (l : List Element) → FineAll l → length (concat (map block_of l)) ≡ length l * block_length
length_blocks l none_left = refl
length_blocks l (one_more {x = x} {l = l'} f fs) = length-append (block_of x) (concat (map block_of l')) ∙ omega (arith, length_block x f, length_blocks l' fs)

past_one : (x : Element) (l : List Element) → FineElement x → (z : List ℕ) (e : ℕ)
    → drop (suc e * block_length) (concat (map block_of (x ∷ l)) ++ z) ≡ drop (e * block_length) (concat (map block_of l) ++ z)
past_one x l f z e =
    let k : suc e * block_length ≡ block_length + e * block_length = omega arith in
    ap₂ (λ n r. drop n r) k (append_assoc (block_of x) (concat (map block_of l)) z)
    ∙ sym (drop-drop (e * block_length) block_length (block_of x ++ (concat (map block_of l) ++ z)))
    ∙ ap (drop (e * block_length)) (drop_at (block_of x) (concat (map block_of l) ++ z) block_length (length_block x f))

-- the block at e, in the blocks and what follows them
part_at : (l : List Element) → FineAll l → (z : List ℕ) (e : ℕ) → e < length l
    → take block_length (drop (e * block_length) (concat (map block_of l) ++ z)) ≡ block_of (get_or l e undeclared)
part_at [] f z e h = absurd (not-suc-le-zero h)
part_at (x ∷ l) (one_more f fs) z zero h =
    ap (take block_length) (append_assoc (block_of x) (concat (map block_of l)) z) ∙ take_at (block_of x) (concat (map block_of l) ++ z) block_length (length_block x f)
part_at (x ∷ l) (one_more f fs) z (suc e) h = ap (take block_length) (past_one x l f z e) ∙ part_at l fs z e (le_of_suc-le-suc h)

zero_replicate : (n i : ℕ) → ◌≡◌ {A = ℕ} (get_or (replicate n 0) i 0) 0
zero_replicate zero i = refl
zero_replicate (suc n) zero = refl
zero_replicate (suc n) (suc i) = zero_replicate n i

zero_take : (k : ℕ) (l : List ℕ) → ((i : ℕ) → get_or l i 0 ≡ 0) → (i : ℕ) → get_or (take k l) i 0 ≡ 0
zero_take zero l h i = refl
zero_take (suc k) [] h i = refl
zero_take (suc k) (x ∷ l) h zero = h zero
zero_take (suc k) (x ∷ l) h (suc i) = zero_take k l (λ j. h (suc j)) i

part_past : (l : List Element) → FineAll l → (n e i : ℕ) → length l ≤ e
    → get_or (take block_length (drop (e * block_length) (concat (map block_of l) ++ replicate n 0))) i 0 ≡ 0
part_past [] f n e i h =
    zero_take block_length (drop (e * block_length) (replicate n 0)) (λ j. get_or-drop (e * block_length) (replicate n 0) j 0 ∙ zero_replicate n (e * block_length + j)) i
part_past (x ∷ l) (one_more f fs) n zero i h = absurd (not-suc-le-zero h)
part_past (x ∷ l) (one_more f fs) n (suc e) i h =
    ap (λ r. get_or (take block_length r) i 0) (past_one x l f (replicate n 0) e) ∙ part_past l fs n e i (le_of_suc-le-suc h)

-- ---- the rules

module _ (s : Schema) (f : FineAll s.elements) (few : length s.elements ≤ most_elements) where
  abbrev pub L : List ℕ
  L = length s.elements ∷ s.root ∷ concat (map block_of s.elements)

  pub length_L : length L ≡ 2 + length s.elements * block_length
  length_L = let h = length_blocks s.elements f in omega arith

  pub length_all : length (blocks_of s) ≡ fixed_at
  length_all = length_pad fixed_at L (omega (arith, length_L))

  -- the two parts of the table
  pub blocks_part : take fixed_at (table_of s) ≡ blocks_of s
  unfolding table_of
  blocks_part = take_at (blocks_of s) (fixed_numbers (entries_from 0 s.elements)) fixed_at length_all

  pub fixed_part_lem : fixed_part (table_of s) ≡ fixed_numbers (entries_from 0 s.elements)
  unfolding fixed_part table_of
  fixed_part_lem = drop_at (blocks_of s) (fixed_numbers (entries_from 0 s.elements)) fixed_at length_all

  rest : ℕ
  rest = fixed_at - length L

  block_is : (e : ℕ) → block (table_of s) e ≡ take block_length (drop (e * block_length) (concat (map block_of s.elements) ++ replicate rest 0))
  unfolding block rest
  block_is e =
      let k : 2 + e * block_length ≡ suc (suc (e * block_length)) = omega arith in
      ap (λ t. take block_length (drop (2 + e * block_length) t)) blocks_part ∙ ap (λ n. take block_length (drop n (blocks_of s))) k

  pub block_in : (e : ℕ) → e < length s.elements → block (table_of s) e ≡ block_of (element_at s e)
  block_in e h = block_is e ∙ part_at s.elements f (replicate rest 0) e h

  block_past : (e : ℕ) → length s.elements ≤ e → (i : ℕ) → cell (block (table_of s) e) i ≡ 0
  block_past e h i = ap (λ b. cell b i) (block_is e) ∙ part_past s.elements f rest e i h

  -- an element past the last is undeclared
  past_undeclared : (l : List Element) (e : ℕ) → length l ≤ e → get_or l e undeclared ≡ undeclared
  past_undeclared l e h = get_or-eq_default l undeclared h

  fine_at : (l : List Element) → FineAll l → (e : ℕ) → e < length l → FineElement (get_or l e undeclared)
  fine_at l none_left e h = absurd (not-suc-le-zero h)
  fine_at l (one_more g fs) zero h = g
  fine_at l (one_more {l = l'} g fs) (suc e) h = fine_at l' fs e (le_of_suc-le-suc h)

  -- by an element inside or past the last
  by_place : (P : ℕ → Type 0) → ((e : ℕ) → e < length s.elements → P e) → ((e : ℕ) → length s.elements ≤ e → P e) → (e : ℕ) → P e
  by_place P a b e = elim (dec_lt e (length s.elements)) [ yes h ↦ a e h | no h ↦ b e (omega arith) ]

  kind_same : (e : ℕ) → cell (block (table_of s) e) kind_at ≡ kind_number (element_at s e).content
  kind_same = by_place (λ e. cell (block (table_of s) e) kind_at ≡ kind_number (element_at s e).content)
      (λ e h. ap (λ b. cell b kind_at) (block_in e h))
      (λ e h. block_past e h kind_at ∙ ap (λ x. kind_number x.content) (sym (past_undeclared s.elements e h)))

  -- the five sets, by where they stand in a block and what they hold
  pub set_same : (i : ℕ) (P : Attribute → Bool) → ((x : Element) → cell (block_of x) i ≡ set_of P x.attributes)
      → (e a : ℕ) → bit (cell (block (table_of s) e) i) a ≡ has P (element_at s e) a
  set_same i P q e a = by_place (λ e. bit (cell (block (table_of s) e) i) a ≡ has P (element_at s e) a)
      (λ e h. ap (λ b. bit (cell b i) a) (block_in e h) ∙ ap (λ w. bit w a) (q (element_at s e)) ∙ set_bit P (element_at s e).attributes a)
      (λ e h. ap (λ w. bit w a) (block_past e h i) ∙ bit_zero a ∙ ap (λ x. has P x a) (sym (past_undeclared s.elements e h)))
      e

  describes_block : (x : Element) → FineElement x → (w : List ℕ) → runs (block_of x) w ≡ described_by x.content w
  describes_block x g w = go x.content g.fine
    where
      go : (c : Content) → ((e : Expr) → c ≡ model e → Fine e) → runs (block_of (record { content = c; attributes = x.attributes })) w ≡ described_by c w
      go empty h = runs_none (block_of (record { content = empty; attributes = x.attributes })) refl refl w
      go text h = runs_none (block_of (record { content = text; attributes = x.attributes })) refl refl w
      go (model e) h = runs_matches x.attributes e (h e refl) w

  describes_same : (e : ℕ) (w : List ℕ) → runs (block (table_of s) e) w ≡ described_by (element_at s e).content w
  describes_same e w = by_place (λ e. runs (block (table_of s) e) w ≡ described_by (element_at s e).content w)
      (λ e h. ap (λ b. runs b w) (block_in e h) ∙ describes_block (element_at s e) (fine_at s.elements f e h) w)
      (λ e h. runs_none (block (table_of s) e) (block_past e h count_at) (block_past e h no_child_at) w
      ∙ ap (λ x. described_by x.content w) (sym (past_undeclared s.elements e h)))
      e

  begins_block : (x : Element) → FineElement x → (w : List ℕ) → goes_on (run_from (block_of x) start w) ≡ begun_by x.content w
  begins_block x g w = go x.content g.fine
    where
      go : (c : Content) → ((e : Expr) → c ≡ model e → Fine e)
          → goes_on (run_from (block_of (record { content = c; attributes = x.attributes })) start w) ≡ begun_by c w
      go empty h = goes_none (block_of (record { content = empty; attributes = x.attributes })) refl w
      go text h = goes_none (block_of (record { content = text; attributes = x.attributes })) refl w
      go (model e) h = goes_begins x.attributes e (h e refl) w

  begins_same : (e : ℕ) (w : List ℕ) → goes_on (run_from (block (table_of s) e) start w) ≡ begun_by (element_at s e).content w
  begins_same e w = by_place (λ e. goes_on (run_from (block (table_of s) e) start w) ≡ begun_by (element_at s e).content w)
      (λ e h. ap (λ b. goes_on (run_from b start w)) (block_in e h) ∙ begins_block (element_at s e) (fine_at s.elements f e h) w)
      (λ e h. goes_none (block (table_of s) e) (block_past e h count_at) w
      ∙ ap (λ x. begun_by x.content w) (sym (past_undeclared s.elements e h)))
      e

  fixed_values : (e a : ℕ) → fixed_by (entries (fixed_part (table_of s))) e a ≡ fixed_to (element_at s e) a
  fixed_values e a =
      ap (λ l. fixed_by (entries l) e a) fixed_part_lem ∙ ap (λ l. fixed_by l e a) (entries_back (entries_from 0 s.elements)) ∙ fixed_same s.elements e a

  -- The rules read from the table are the rules read from the expressions.
  pub same_rules : of_table (table_of s) ≡ of_schema s
  unfolding table_of
  same_rules = λ i. record {
    elements = length s.elements;
    root = s.root;
    kind = λ e. kind_same e i;
    describes = λ e w. describes_same e w i;
    begins = λ e w. begins_same e w i;
    allowed = λ e a. set_same allowed_at (λ y. true) (λ x. refl) e a i;
    required = λ e a. set_same required_at is_required (λ x. refl) e a i;
    id = λ e a. set_same id_at (of_kind 1) (λ x. refl) e a i;
    idref = λ e a. set_same idref_at (of_kind 2) (λ x. refl) e a i;
    idrefs = λ e a. set_same idrefs_at (of_kind 3) (λ x. refl) e a i;
    fixed = λ e a. fixed_values e a i;
  }
