-- The values that come and go, read by themselves: an element or a text needs nothing of what stands before it, an attribute the name
-- of its element, which stands at the edit's place. Assumes nothing.
use Rattle.std.specs.Prelude.{◌≡◌, Bool, true, false, cond, ◌||◌, List, [], ◌∷◌, ◌++◌, ltb, leb, eqb, length, drop}
use Rattle.std.proofs.Math.Path.{refl, sym, subst}
use Rattle.std.proofs.Common.{ap, ◌∙◌, arith, take-add, drop-drop}
use Rattle.std.proofs.Math.Bool.{not, and-eq-true_iff}
use Prim.Native.Nat.{ℕ, zero, suc}
use borrow.Author.Tests.{leb-true}
use Rattle.std.proofs.Math.ListN.{take}
use Rattle.std.proofs.Math.Seq.{take-length}
use Rattle.basic_laws.specs.Bools.{clash}
use Rattle.paper.specs.declared.Tok.{Tok}
use Rattle.paper.specs.declared.Tok.TheVariants.{Start, End, Text, Attr, Value, Bad}
use Rattle.paper.specs.Basics.{most_tokens, between}
use Rattle.paper.specs.Tokens.{is_start, item_size, values, slot, held}
use Rattle.paper.specs.Shape.{Body, is_element}
use Rattle.paper.specs.Edits.{is_text, good_item, attr_with, some_values, good_piece, opens, at_head, attr_number, attr_at, attr_cut, good_place, splice_at, splice_cut, coming}
use Rattle.shape_laws.specs.Keep.{element_parts}
use Rattle.shape_laws.specs.Attrs.{Put, gone, given}
use Rattle.shape_laws.specs.Five.{Whole, element, one_text}
use Rattle.shape_laws.specs.EditJudged.{item_whole, root_size, set_put}
use Rattle.back_laws.specs.Items.{went_whole}
use Rattle.kept_laws.specs.Found.{found, last_start, last_attr}
use Rattle.kept_laws.specs.Behind.{free}
use Rattle.kept_laws.specs.Split.{goes, comes}

-- ---- an element or a text

whole_found : (is : ℕ → ℕ → Bool) (e f a b : ℕ) {p : List Tok} → Whole p → found is e a p ≡ found is f b p
whole_found is e f a b (element {d = p} h) = free is Body p e f a b tt (element_parts p h).2
whole_found is e f a b one_text = refl

-- ---- an attribute

start_append : (e : ℕ) (u x : List Tok) → last_start e (u ++ x) ≡ last_start (last_start e u) x
start_append e [] x = refl
start_append e (Start n ∷ u) x = start_append n u x
start_append e (End ∷ u) x = start_append e u x
start_append e (Text n ∷ u) x = start_append e u x
start_append e (Attr n ∷ u) x = start_append e u x
start_append e (Value v ∷ u) x = start_append e u x
start_append e (Bad ∷ u) x = start_append e u x

to_start : (i e n : ℕ) (d r : List Tok) → drop i d ≡ Start n ∷ r → last_start e (take (suc i) d) ≡ n
to_start zero e n d r s = ap (λ l. last_start e (take 1 l)) s
to_start (suc i) e n [] r s = cc
to_start (suc i) e n (Start m ∷ d) r s = to_start i m n d r s
to_start (suc i) e n (End ∷ d) r s = to_start i e n d r s
to_start (suc i) e n (Text m ∷ d) r s = to_start i e n d r s
to_start (suc i) e n (Attr m ∷ d) r s = to_start i e n d r s
to_start (suc i) e n (Value m ∷ d) r s = to_start i e n d r s
to_start (suc i) e n (Bad ∷ d) r s = to_start i e n d r s

slot_start : (e k : ℕ) (r : List Tok) → last_start e (take (slot k r) r) ≡ e
slot_start e k [] = refl
slot_start e k (Attr n ∷ r) = go (ltb n k) (slot_start e k r)
  where
    go : (b : Bool) → last_start e (take (slot k r) r) ≡ e → last_start e (take (cond b (suc (slot k r)) 0) (Attr n ∷ r)) ≡ e
    go true h = h
    go false h = refl
slot_start e k (Value v ∷ r) = slot_start e k r
slot_start e k (Start n ∷ r) = refl
slot_start e k (End ∷ r) = refl
slot_start e k (Text n ∷ r) = refl
slot_start e k (Bad ∷ r) = refl

-- before an attribute's place the last start is its element's
pub attr_start : (k i n : ℕ) (d r : List Tok) → drop i d ≡ Start n ∷ r → last_start 0 (take (attr_at k i d) d) ≡ n
attr_start k i n d r s =
    let l : List Tok = drop (suc i) d in
    ap (last_start 0) (take-add (suc i) (slot k l) d) ∙ start_append 0 (take (suc i) d) (take (slot k l) l)
    ∙ slot_start (last_start 0 (take (suc i) d)) k l ∙ to_start i 0 n d r s

put_found : (is : ℕ → ℕ → Bool) (e a b k : ℕ) {p : List Tok} → Put k p → found is e a p ≡ found is e b p
put_found is e a b k gone = refl
put_found is e a b k (given v vs h) = refl

held_found : (is : ℕ → ℕ → Bool) (e a b k : ℕ) (u : List Tok) → found is e a (take (held k u) u) ≡ found is e b (take (held k u) u)
held_found is e a b k [] = refl
held_found is e a b k (Attr n ∷ r) = go (eqb n k)
  where
    go : (y : Bool) → found is e a (take (cond y (suc (values r)) 0) (Attr n ∷ r)) ≡ found is e b (take (cond y (suc (values r)) 0) (Attr n ∷ r))
    go true = refl
    go false = refl
held_found is e a b k (Value v ∷ r) = refl
held_found is e a b k (Start n ∷ r) = refl
held_found is e a b k (End ∷ r) = refl
held_found is e a b k (Text n ∷ r) = refl
held_found is e a b k (Bad ∷ r) = refl

-- ---- the five edits

-- e is the name of the element that starts at the place, if one does
abbrev pub Names : ℕ → ℕ → List Tok → Type 0
Names e place d = (n : ℕ) (r : List Tok) → drop place d ≡ Start n ∷ r → e ≡ n

-- what goes and what comes, read from the element e on
pub record Reads (is : ℕ → ℕ → Bool) (d : List Tok) (e at n : ℕ) (p : List Tok) : Type 0 where
  pub went : goes is at d n ≡ found is e 0 (take n (drop at d))
  pub came : comes is at d p ≡ found is e 0 p

module _ (is : ℕ → ℕ → Bool) (d p : List Tok) (one : is_element d ≡ true) (e : ℕ) where
  item_reads : (at : ℕ) {q : List Tok} → at_head opens (drop (suc at) d) ≡ true → found is e 0 q ≡ comes is (suc at) d q
      → Reads is d e (suc at) (item_size (drop (suc at) d)) q
  item_reads at o c = record { went = whole_found is _ e _ 0 (went_whole d at one o); came = sym c }

  attr_reads : (k i : ℕ) {q : List Tok} → is_start (drop i d) ≡ true → Put k q → Names e i d → Reads is d e (attr_at k i d) (attr_cut k i d) q
  attr_reads k i {q} s put names = go (drop i d) refl s
    where
      go : (r : List Tok) → drop i d ≡ r → is_start r ≡ true → Reads is d e (attr_at k i d) (attr_cut k i d) q
      go [] h s = clash s refl
      go (End ∷ r) h s = clash s refl
      go (Text n ∷ r) h s = clash s refl
      go (Attr n ∷ r) h s = clash s refl
      go (Value n ∷ r) h s = clash s refl
      go (Bad ∷ r) h s = clash s refl
      go (Start n ∷ r) h s =
          let name : last_start 0 (take (attr_at k i d) d) ≡ e = attr_start k i n d r h ∙ sym (names n r h) in
          let a : ℕ = last_attr 0 (take (attr_at k i d) d) in
          let l : List Tok = drop (suc i) d in
          let c : List Tok = take (attr_cut k i d) (drop (attr_at k i d) d) in
          record {
            went = ap (λ z. found is z a c) name
                ∙ subst (λ u. found is e a (take (attr_cut k i d) u) ≡ found is e 0 (take (attr_cut k i d) u)) (drop-drop (slot k l) (suc i) d) (held_found is e a 0 k (drop (slot k l) l));
            came = ap (λ z. found is z a q) name ∙ put_found is e a 0 k put;
          }

  abbrev item : (at : ℕ) → good_item p ≡ true → found is e 0 p ≡ comes is at d p
  item at g = whole_found is e _ 0 _ (item_whole p g)

  -- Of any edit: only set and drop ask for the name.
  pub read_by : (op place : ℕ) → between 1 5 op ≡ true → good_piece op p ≡ true → good_place op place p d ≡ true → Names e place d
      → Reads is d e (splice_at op place p d) (splice_cut op place p d) (coming op p)
  unfolding good_piece good_place
  read_by zero place o g h = λ names. clash o refl
  read_by (suc zero) place o g h = λ names.
      record { went = refl; came = sym (item place ((and-eq-true_iff (leb (length p) most_tokens) (good_item p)).0 g).1) }
  read_by (suc (suc zero)) zero o g h = λ names. clash ((and-eq-true_iff (at_head opens d) false).0 h).1 refl
  read_by (suc (suc zero)) (suc at) o g h = λ names. item_reads at ((and-eq-true_iff (at_head opens (drop (suc at) d)) (ltb 0 (suc at))).0 h).0 refl
  read_by (suc (suc (suc zero))) zero o g h = λ names. record {
    went = subst (λ x. found is 0 0 x ≡ found is e 0 x) (sym (ap (λ n. take n d) (root_size d one) ∙ take-length d)) (free is Body d 0 e 0 0 tt (element_parts d one).2);
    came = sym (item 0 ((and-eq-true_iff (leb (length p) most_tokens) (good_item p)).0 g).1);
  }
  read_by (suc (suc (suc zero))) (suc at) o g h = λ names.
      item_reads at ((and-eq-true_iff (at_head opens (drop (suc at) d)) (ltb 0 (suc at) || not (is_text p))).0 h).0
      (item (suc at) ((and-eq-true_iff (leb (length p) most_tokens) (good_item p)).0 g).1)
  read_by (suc (suc (suc (suc zero)))) place o g h =
      attr_reads (attr_number p) place h (set_put p ((and-eq-true_iff (leb (length p) most_tokens) (attr_with some_values p)).0 g).1)
  read_by (suc (suc (suc (suc (suc zero))))) place o g h =
      attr_reads (attr_number p) place ((and-eq-true_iff (is_start (drop place d)) (ltb 0 (attr_cut (attr_number p) place d))).0 h).0 gone
  read_by (suc (suc (suc (suc (suc (suc op)))))) place o g h = λ names.
      let f = leb-true (suc (suc (suc (suc (suc (suc op)))))) 5 ((and-eq-true_iff (leb 1 (suc (suc (suc (suc (suc (suc op))))))) (leb (suc (suc (suc (suc (suc (suc op)))))) 5)).0 o).1 in
      absurd (omega arith)
