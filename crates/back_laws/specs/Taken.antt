-- The inverse of an edit in form undoes it: from the tokens to the numbers, for all five operations. Assumes nothing.
use Rattle.std.specs.Prelude.{◌≡◌, Bool, ◌&&◌, List, [], leb, length, take, drop}
use Rattle.std.proofs.Math.Path.{refl, ap}
use Rattle.std.proofs.Common.{◌∙◌, arith, length-take-le}
use Rattle.std.proofs.Math.Bool.{true, false, and-eq-true_iff}
use Prim.Native.Nat.{ℕ, zero, suc, ◌+◌, ◌≤◌}
use borrow.Author.Tests.{le-leb, leb-true, eqb-true, eqb-false}
use Rattle.std.proofs.lemmas.List.{length-map}
use Rattle.basic_laws.specs.Bools.{clash}
use Rattle.paper.specs.declared.Tok.{Tok}
use Rattle.paper.specs.Basics.{most_tokens, most_deep, between}
use Rattle.paper.specs.Tokens.{toks, tok_of, is_start, deep}
use Rattle.paper.specs.Shape.{is_element, shallow, shape_of}
use Rattle.paper.specs.Edits.{Request, good_piece, opens, at_head, attr_number, attr_cut, good_place, splice_at, splice_cut, coming, edited}
use Rattle.paper.specs.Back.{went, adds, inverse}
use Rattle.shape_laws.specs.Bridge.{toks_take, toks_drop}
use Rattle.shape_laws.specs.Five.{Allowed, allowed_within, five_keep}
use Rattle.shape_laws.specs.EditJudged.{Asked, allowed_by, edited_toks}
use Rattle.shape_laws.specs.Shaped.{shaped}
use Rattle.back_laws.specs.Undoes.{made, gone_by, Undoes, insert_undone, remove_undone, replace_undone, root_undone, drop_undone, set_undone, added_undone}

-- ---- a document with shape

pub record Document (doc : List ℕ) : Type 0 where
  pub one : is_element (toks doc) ≡ true
  pub short : length doc ≤ most_tokens
  pub low : shallow (toks doc) ≡ true

-- the document that a buffer holds
pub shape_document : (buffer : List ℕ) (used : ℕ) → shape_of buffer used ≡ true → Document (take used buffer)
shape_document buffer used e =
    let s = shaped buffer used e in
    record { one = s.one; short = omega (arith, length-take-le used buffer s.long, s.few); low = le-leb (deep 0 (toks (take used buffer))) most_deep s.low }

-- ---- which edit undoes it

-- the inverse undoes the edit, and what comes back is what went
pub record Taken (q : Request) (doc : List ℕ) : Type 0 where
  pub undoes : Undoes q.operation q.place (toks q.piece) (toks doc) (inverse q doc).operation (toks (inverse q doc).piece)
  pub comes : coming (inverse q doc).operation (inverse q doc).piece ≡ went q doc

module _ (doc : List ℕ) (s : Document doc) where
  abbrev d : List Tok
  d = toks doc

  d_short : length d ≤ most_tokens
  d_short = omega (arith, length-map doc tok_of, s.short)

  went_toks : (q : Request) → toks (went q doc) ≡ gone_by q.operation q.place (toks q.piece) d
  unfolding went
  went_toks q =
      let at : ℕ = splice_at q.operation q.place (toks q.piece) d in
      let cut : ℕ = splice_cut q.operation q.place (toks q.piece) d in
      toks_take cut (drop at doc) ∙ ap (take cut) (toks_drop at doc)

  module _ (piece : List ℕ) (i : ℕ) where
    abbrev by : ℕ → Request
    by op = record { operation = op; place = i; piece = piece }

    abbrev p : List Tok
    p = toks piece

    -- the splice lies in the document
    abbrev Inside : ℕ → Type 0
    Inside op = splice_at op i p d ≤ length d

    none_went : attr_cut (attr_number p) i d ≡ 0 → [] ≡ went (by 4) doc
    unfolding went
    none_went z = rw z

    set_taken : Inside 4 → good_piece 4 p ≡ true → is_start (drop i d) ≡ true → Taken (by 4) doc
    unfolding inverse
    set_taken l g st = go (adds (by 4) doc) refl
      where
        go : (b : Bool) → adds (by 4) doc ≡ b → Taken (by 4) doc
        go true z = record {
          undoes = rw (z, toks_take 1 piece) (added_undone d s.one d_short s.low p i l g st);
          comes = rw z (none_went (eqb-true (attr_cut (attr_number p) i d) 0 z));
        }
        go false z =
            let h = eqb-false (attr_cut (attr_number p) i d) 0 z in
            record { undoes = rw (z, went_toks (by 4)) (set_undone d s.one d_short s.low p i l g st (omega arith)); comes = rw z refl }

    insert_taken : Inside 1 → good_piece 1 p ≡ true → good_place 1 i p d ≡ true → Taken (by 1) doc
    unfolding inverse went
    insert_taken l g h = record { undoes = insert_undone d s.one d_short s.low p i l g h; comes = refl }

    drop_taken : Inside 5 → good_place 5 i p d ≡ true → Taken (by 5) doc
    unfolding inverse
    drop_taken l h = record { undoes = rw (went_toks (by 5)) (drop_undone d s.one d_short s.low p i l h); comes = refl }

    -- what an edit made is an element, and no deeper than may be
    abbrev Well : ℕ → Type 0
    Well op = (is_element (made op i p d) ≡ true) × (shallow (made op i p d) ≡ true)

  module _ (piece : List ℕ) where
    remove_taken : (i : ℕ) → Inside piece i 2 → good_place 2 i (toks piece) d ≡ true → Well piece i 2 → Taken (by piece i 2) doc
    unfolding inverse good_place
    remove_taken zero l h w = clash ((and-eq-true_iff (at_head opens d) false).0 h).1 refl
    remove_taken (suc at) l h (f, k) =
        record { undoes = rw (went_toks (by piece (suc at) 2)) (remove_undone d s.one d_short s.low (toks piece) at l h f k); comes = refl }

    replace_taken : (i : ℕ) → Inside piece i 3 → good_piece 3 (toks piece) ≡ true → good_place 3 i (toks piece) d ≡ true → Well piece i 3 → Taken (by piece i 3) doc
    unfolding inverse
    replace_taken zero l g h w = record { undoes = rw (went_toks (by piece 0 3)) (root_undone d s.one d_short s.low (toks piece) g); comes = refl }
    replace_taken (suc at) l g h (f, k) =
        record { undoes = rw (went_toks (by piece (suc at) 3)) (replace_undone d s.one d_short s.low (toks piece) at l g h f k); comes = refl }

  taken_by : (op i : ℕ) (piece : List ℕ) → Inside piece i op → between 1 5 op ≡ true → good_piece op (toks piece) ≡ true → good_place op i (toks piece) d ≡ true
      → Well piece i op → Taken (by piece i op) doc
  unfolding good_place
  taken_by zero i piece l b g h w = clash b refl
  taken_by (suc zero) i piece l b g h w = insert_taken piece i l g h
  taken_by (suc (suc zero)) i piece l b g h w = remove_taken piece i l h w
  taken_by (suc (suc (suc zero))) i piece l b g h w = replace_taken piece i l g h w
  taken_by (suc (suc (suc (suc zero)))) i piece l b g h w = set_taken piece i l g h
  taken_by (suc (suc (suc (suc (suc zero))))) i piece l b g h w = drop_taken piece i l h
  taken_by (suc (suc (suc (suc (suc (suc op)))))) i piece l b g h w =
      let k = leb-true (suc (suc (suc (suc (suc (suc op)))))) 5 ((and-eq-true_iff (leb 1 (suc (suc (suc (suc (suc (suc op))))))) (leb (suc (suc (suc (suc (suc (suc op)))))) 5)).0 b).1 in
      absurd (omega arith)

  module _ (room : ℕ) (q : Request) (a : Asked room q doc) where
    allowed : Allowed d (splice_at q.operation q.place (toks q.piece) d) (splice_cut q.operation q.place (toks q.piece) d) (coming q.operation (toks q.piece))
    allowed = allowed_by d (toks q.piece) s.one q.operation q.place a.operation a.piece a.place

    -- the splice lies in the document
    pub inside : splice_at q.operation q.place (toks q.piece) d + splice_cut q.operation q.place (toks q.piece) d ≤ length doc
    inside = omega (arith, allowed_within d s.one allowed, length-map doc tok_of)

    made_one : is_element (made q.operation q.place (toks q.piece) d) ≡ true
    made_one = five_keep d s.one allowed

    -- the edited document has shape
    pub edited_document : Document (edited q doc)
    edited_document =
        let new : List ℕ = edited q doc in
        let (size, low) = (and-eq-true_iff (leb (length new) most_tokens) (shallow (toks new))).0 ((and-eq-true_iff (leb (length new) most_tokens && shallow (toks new)) (leb (length new) room)).0 a.size).0 in
        record { one = rw (edited_toks q doc) made_one; short = leb-true (length new) most_tokens size; low = low }

    pub taken : Taken q doc
    taken =
        taken_by q.operation q.place q.piece (omega (arith, inside, length-map doc tok_of)) a.operation a.piece a.place
        (made_one, rw (edited_toks q doc) at edited_document.low)
