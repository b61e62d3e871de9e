-- Each of the five edits, told on the tokens: which edit undoes it, and that this one has a good piece and a good place. Assumes nothing.
use Rattle.std.specs.Prelude.{◌≡◌, refl, ◌||◌, ℕ, zero, suc, ◌+◌, ◌≤◌, ◌<◌, leb, ltb}
use Rattle.std.proofs.Math.Path.{sym, ap}
use Rattle.std.proofs.Common.{◌∙◌, arith, length-take, length-drop, drop-drop}
use Rattle.std.proofs.Math.Bool.{true, not, and-eq-true_iff}
use mathlib.Core.List.{List, [], ◌∷◌, ◌++◌}
use borrow.Author.Tests.{le-leb, leb-true, ltb-true, lt-ltb}
use Rattle.std.proofs.Math.ListN.{length, take, drop}
use Rattle.std.proofs.Math.Seq.{take-length}
use Rattle.paper.specs.declared.Tok.{Tok}
use Rattle.paper.specs.declared.Tok.TheVariants.{Attr}
use Rattle.paper.specs.Basics.{most_tokens, most_deep, between}
use Rattle.paper.specs.Tokens.{is_start, item_size, deep}
use Rattle.paper.specs.Shape.{Body, is_body, phases, is_element, shallow}
use Rattle.paper.specs.Edits.{is_text, good_item, attr_with, some_values, good_piece, opens, opens_or_ends, at_head, attr_number, attr_at, attr_cut, good_place, splice_at, splice_cut, coming, splice}
use Rattle.shape_laws.specs.Keep.{element_parts}
use Rattle.shape_laws.specs.Attrs.{Put, gone}
use Rattle.shape_laws.specs.Depth.{open_in}
use Rattle.shape_laws.specs.Five.{Whole, Allowed, replace, five_deep}
use Rattle.shape_laws.specs.EditJudged.{item_whole, opens_size, insert_at, attr_is, set_put, root_size}
use Rattle.back_laws.specs.Splices.{splice_drop, splice_back}
use Rattle.back_laws.specs.Items.{whole_size, went_whole, went_next, no_text, whole_good}
use Rattle.back_laws.specs.Attributes.{start_after, at_after, cut_after, had_good}

-- the edited document, and what went
abbrev pub made : (op i : ℕ) (p d : List Tok) → List Tok
made op i p d = splice (splice_at op i p d) (splice_cut op i p d) (coming op p) d

abbrev pub gone_by : (op i : ℕ) (p d : List Tok) → List Tok
gone_by op i p d = take (splice_cut op i p d) (drop (splice_at op i p d) d)

-- op' with the piece p' undoes op with the piece p, both at i: it cuts where p came, and what came; and it is asked for rightly
pub record Undoes (op i : ℕ) (p d : List Tok) (op' : ℕ) (p' : List Tok) : Type 0 where
  pub same_at : splice_at op' i p' (made op i p d) ≡ splice_at op i p d
  pub same_cut : splice_cut op' i p' (made op i p d) ≡ length (coming op p)
  pub operation : between 1 5 op' ≡ true
  pub piece : good_piece op' p' ≡ true
  pub place : good_place op' i p' (made op i p d) ≡ true

-- what fits below a place is not deep itself
below_shallow : (m n : ℕ) → leb (m + n) most_deep ≡ true → leb n most_deep ≡ true
below_shallow m n e = le-leb n most_deep (omega (arith, leb-true (m + n) most_deep e))

-- the piece of an insert or a replace
piece_whole : (p : List Tok) → good_piece 1 p ≡ true → Whole p
unfolding good_piece
piece_whole p g = item_whole p ((and-eq-true_iff (leb (length p) most_tokens) (good_item p)).0 g).1

-- d is a document
module _ (d : List Tok) (e : is_element d ≡ true) (short : length d ≤ most_tokens) (low : shallow d ≡ true) where
  part_short : (n at : ℕ) → leb (length (take n (drop at d))) most_tokens ≡ true
  part_short n at = le-leb (length (take n (drop at d))) most_tokens (omega (arith, length-take n (drop at d), length-drop at d))

  -- what an allowed edit of n brings back to make d is not deep
  back_shallow : (n : List Tok) → is_element n ≡ true → shallow n ≡ true → {at c : ℕ} {p : List Tok} → Allowed n at c p → splice at c p n ≡ d → shallow p ≡ true
  back_shallow n f l {at} {c} {p} w s =
      below_shallow (open_in (take at n)) (deep zero p)
      (sym (five_deep n f most_deep (leb-true (deep zero n) most_deep l) w) ∙ ap (λ z. leb (deep zero z) most_deep) s ∙ low)

  -- ---- insert, remove and replace

  module _ (p : List Tok) where
    pub insert_undone : (i : ℕ) → i ≤ length d → good_piece 1 p ≡ true → good_place 1 i p d ≡ true → Undoes 1 i p d 2 []
    unfolding good_piece good_place
    insert_undone i h g s =
        let there : drop i (made 1 i p d) ≡ p ++ drop (i + 0) d = splice_drop i 0 p d h in
        let (size, opens-there) = whole_size (drop (i + 0) d) (piece_whole p g) in
        record {
          same_at = refl;
          same_cut = ap item_size there ∙ size;
          operation = refl;
          piece = refl;
          place = rw (there, opens-there, ((and-eq-true_iff (at_head opens_or_ends (drop i d)) (ltb 0 i)).0 s).1);
        }

    module _ (at : ℕ) (h : suc at ≤ length d) where
      abbrev i : ℕ
      i = suc at

      abbrev item : ℕ
      item = item_size (drop i d)

      abbrev went : List Tok
      went = take item (drop i d)

      pub remove_undone : good_place 2 i p d ≡ true → is_element (made 2 i p d) ≡ true → shallow (made 2 i p d) ≡ true → Undoes 2 i p d 1 went
      unfolding good_piece good_place
      remove_undone s f l =
          let (o, z) = (and-eq-true_iff (at_head opens (drop i d)) (ltb 0 i)).0 s in
          let n : List Tok = made 2 i p d in
          let w : Whole went = went_whole d at e o in
          let there : drop i n ≡ drop item (drop i d) = splice_drop i item [] d h ∙ sym (drop-drop item i d) in
          let next : at_head opens_or_ends (drop i n) ≡ true = ap (at_head opens_or_ends) there ∙ went_next d at e o in
          let fine : shallow went ≡ true = back_shallow n f l (insert_at n went at next w) (splice_back i item [] d h) in
          record {
            same_at = refl;
            same_cut = refl;
            operation = refl;
            piece = rw (part_short item i, whole_good w fine);
            place = rw (next, z);
          }

      pub replace_undone : good_piece 3 p ≡ true → good_place 3 i p d ≡ true → is_element (made 3 i p d) ≡ true → shallow (made 3 i p d) ≡ true → Undoes 3 i p d 3 went
      unfolding good_piece good_place
      replace_undone g s f l =
          let o = ((and-eq-true_iff (at_head opens (drop i d)) (ltb 0 i || not (is_text p))).0 s).0 in
          let n : List Tok = made 3 i p d in
          let w : Whole went = went_whole d at e o in
          let there : drop i n ≡ p ++ drop (i + item) d = splice_drop i item p d h in
          let (size, opens-there) = whole_size (drop (i + item) d) (piece_whole p g) in
          let cut : item_size (drop i n) ≡ length p = ap item_size there ∙ size in
          let may : at_head opens (drop i n) ≡ true = ap (at_head opens) there ∙ opens-there in
          let fine : shallow went ≡ true = back_shallow n f l (replace at (opens_size (drop i n) may) w) (rw cut (splice_back i item p d h)) in
          record {
            same_at = refl;
            same_cut = cut;
            operation = refl;
            piece = rw (part_short item i, whole_good w fine);
            place = rw (may, lt-ltb 0 i (omega arith));
          }

    -- the root
    pub root_undone : good_piece 3 p ≡ true → Undoes 3 0 p d 3 (take (item_size d) d)
    unfolding good_piece good_place
    root_undone g =
        let (size, opens-there) = whole_size (drop (0 + item_size d) d) (piece_whole p g) in
        let all : take (item_size d) d ≡ d = ap (λ n. take n d) (root_size d e) ∙ take-length d in
        record {
          same_at = refl;
          same_cut = size;
          operation = refl;
          piece = rw (all, le-leb (length d) most_tokens short, no_text d e, e, low);
          place = rw (all, opens-there, no_text d e);
        }

  -- ---- set and drop

  module _ (p : List Tok) (i : ℕ) (inside : attr_at (attr_number p) i d ≤ length d) where
    abbrev a : ℕ
    a = attr_number p

    abbrev had : List Tok
    had = take (attr_cut a i d) (drop (attr_at a i d) d)

    body : is_body (phases Body d) ≡ true
    body = (element_parts d e).2

    -- the attribute is set to what it had; b came in place of that
    set_back : (st : is_start (drop i d) ≡ true) {b : List Tok} → Put a b → 0 < attr_cut a i d
        → let n : List Tok = splice (attr_at a i d) (attr_cut a i d) b d in
        (attr_at (attr_number had) i n ≡ attr_at a i d) × (attr_cut (attr_number had) i n ≡ length b) × (good_piece 4 had ≡ true) × (is_start (drop i n) ≡ true)
    unfolding good_piece
    set_back st put h =
        let (number, good) = had_good a i d body st inside h in
        rw number (at_after a i d body st inside put, cut_after a i d body st inside put, rw (part_short (attr_cut a i d) (attr_at a i d), good), start_after a i d body st inside put)

    pub drop_undone : good_place 5 i p d ≡ true → Undoes 5 i p d 4 had
    unfolding good_place
    drop_undone s =
        let (st, h) = (and-eq-true_iff (is_start (drop i d)) (ltb 0 (attr_cut a i d))).0 s in
        let (at, cut, good, start) = set_back st gone (ltb-true 0 (attr_cut a i d) h) in
        record { same_at = at; same_cut = cut; operation = refl; piece = good; place = start }

    module _ (g : good_piece 4 p ≡ true) (st : is_start (drop i d) ≡ true) where
      good : attr_with some_values p ≡ true
      unfolding good_piece
      good = ((and-eq-true_iff (leb (length p) most_tokens) (attr_with some_values p)).0 g).1

      pub set_undone : 0 < attr_cut a i d → Undoes 4 i p d 4 had
      unfolding good_place
      set_undone h =
          let (at, cut, good, start) = set_back st (set_put p good) h in
          record { same_at = at; same_cut = cut; operation = refl; piece = good; place = start }

      -- a set that added the attribute
      pub added_undone : Undoes 4 i p d 5 (take 1 p)
      unfolding good_piece good_place
      added_undone =
          let (b, r, f, v) = attr_is some_values p good in
          let one : take 1 p ≡ Attr a ∷ [] = rw f in
          let put : Put a p = set_put p good in
          let cut : attr_cut a i (made 4 i p d) ≡ length p = cut_after a i d body st inside put in
          record {
            same_at = rw one (at_after a i d body st inside put);
            same_cut = rw one cut;
            operation = refl;
            piece = rw one refl;
            place = rw (one, start_after a i d body st inside put, cut) (lt-ltb 0 (length p) (omega (arith, ap length f)));
          }
