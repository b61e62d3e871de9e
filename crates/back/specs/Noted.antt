-- The inverse of an edit, told by where the edit cuts and how much; and what is written of it. Assumes nothing.
use Rattle.std.specs.Prelude.{◌≡◌, refl, Bool, true, false, cond, ◌&&◌, List, [], ◌∷◌, ◌++◌, ℕ, zero, suc, ◌+◌, ◌≤◌, leb, eqb, length, take, drop, set}
use Rattle.std.proofs.Common.{sym, ap, ap₂, ◌∙◌, arith, eqb-true, ne_eqb, length-take, length-drop, drop-drop}
use Rattle.std.proofs.Math.Bool.{and-eq-true_iff}
use Rattle.std.proofs.lemmas.List.{length-map}
use Rattle.std.proofs.Math.Seq.{paste}
use Rattle.paper.specs.declared.Tok.{Tok}
use Rattle.paper.specs.Basics.{most_tokens}
use Rattle.paper.specs.Tokens.{toks, tok_of}
use Rattle.paper.specs.Edits.{Request, attr_with, some_values, good_piece, attr_number, attr_at, splice_at, splice_cut}
use Rattle.paper.specs.Back.{went, inverse, needs, noted}
use Rattle.shape_laws.specs.EditJudged.{Asked, attr_is}
use Rattle.back_laws.specs.Taken.{Document, inside}

-- ---- the inverse, of an edit that cuts `cut` tokens at `at`

abbrev pub adds_by : (op cut : ℕ) → Bool
adds_by op cut = eqb op 4 && eqb cut 0

abbrev pub count_by : (op cut : ℕ) → ℕ
count_by op cut = cond (adds_by op cut) 1 cut

abbrev pub operation_by : (op cut : ℕ) → ℕ
operation_by op cut = cond (eqb op 1) 2 (cond (eqb op 2) 1 (cond (eqb op 3) 3 (cond (adds_by op cut) 5 4)))

-- the ways out
module _ (op cut : ℕ) {y : Bool} (e : y ≡ adds_by op cut) where
  pub count_one : y ≡ true → 1 ≡ count_by op cut
  count_one h = rw (← e, h)

  pub count_cut : y ≡ false → cut ≡ count_by op cut
  count_cut h = rw (← e, h)

  module _ (h₁ : op ≡ 1 → ⊥) (h₂ : op ≡ 2 → ⊥) (h₃ : op ≡ 3 → ⊥) where
    pub back_drop : y ≡ true → 5 ≡ operation_by op cut
    back_drop h = rw (ne_eqb op 1 h₁, ne_eqb op 2 h₂, ne_eqb op 3 h₃, ← e, h)

    pub back_set : y ≡ false → 4 ≡ operation_by op cut
    back_set h = rw (ne_eqb op 1 h₁, ne_eqb op 2 h₂, ne_eqb op 3 h₃, ← e, h)

module _ (op cut : ℕ) where
  pub back_remove : op ≡ 1 → 2 ≡ operation_by op cut
  back_remove e = rw e

  pub back_insert : op ≡ 2 → 1 ≡ operation_by op cut
  back_insert e = rw e

  pub back_replace : op ≡ 3 → 3 ≡ operation_by op cut
  back_replace e = rw e

abbrev inverse_by : (q : Request) (doc : List ℕ) (at cut : ℕ) → Request
inverse_by q doc at cut = record {
  operation = operation_by q.operation cut;
  place = q.place;
  piece = cond (adds_by q.operation cut) (take 1 q.piece) (take cut (drop at doc));
}

inverse_splice : (op i : ℕ) (piece doc : List ℕ)
    → let q : Request = record { operation = op; place = i; piece = piece } in
    inverse_by q doc (splice_at op i (toks piece) (toks doc)) (splice_cut op i (toks piece) (toks doc)) ≡ inverse q doc
unfolding inverse went
inverse_splice zero i piece doc = refl
inverse_splice (suc zero) i piece doc = refl
inverse_splice (suc (suc zero)) i piece doc = refl
inverse_splice (suc (suc (suc zero))) i piece doc = refl
inverse_splice (suc (suc (suc (suc zero)))) i piece doc = refl
inverse_splice (suc (suc (suc (suc (suc op))))) i piece doc =
    let n : ℕ = suc (suc (suc (suc (suc op)))) in
    rw (ne_eqb n 1 (λ z. omega arith), ne_eqb n 2 (λ z. omega arith), ne_eqb n 3 (λ z. omega arith), ne_eqb n 4 (λ z. omega arith))

-- ---- an edit that cuts there

pub record Cuts (q : Request) (doc : List ℕ) (at cut : ℕ) : Type 0 where
  pub at_is : at ≡ splice_at q.operation q.place (toks q.piece) (toks doc)
  pub cut_is : cut ≡ splice_cut q.operation q.place (toks q.piece) (toks doc)
  pub within : at + cut ≤ length doc
  pub short : length doc ≤ most_tokens
  pub near : q.place ≤ most_tokens
  pub some : q.operation ≡ 4 → 1 ≤ length q.piece

-- no edit cuts before its place
place_before : (op i : ℕ) (p d : List Tok) → i ≤ splice_at op i p d
place_before op i p d = go (eqb op 1) (eqb op 2) (eqb op 3) (eqb op 4)
  where
    go : (x y z w : Bool) → i ≤ cond x i (cond y i (cond z i (cond w (attr_at (attr_number p) i d) (attr_at (attr_number p) i d))))
    go true y z w = omega arith
    go false true z w = omega arith
    go false false true w = omega arith
    go false false false true = omega arith
    go false false false false = omega arith

set_some : (op : ℕ) (piece : List ℕ) → good_piece op (toks piece) ≡ true → op ≡ 4 → 1 ≤ length piece
unfolding good_piece
set_some op piece g e =
    let p : List Tok = toks piece in
    let (_, f) = (and-eq-true_iff (leb (length p) most_tokens) (attr_with some_values p)).0 (rw e at g) in
    let (a, r, t, v) = attr_is some_values p f in
    omega (arith, ap length t, length-map piece tok_of)

-- of a document with shape, an edit in form
pub cuts : (room : ℕ) (q : Request) (doc : List ℕ) {at cut : ℕ} → Document doc → Asked room q doc
    → at ≡ splice_at q.operation q.place (toks q.piece) (toks doc) → cut ≡ splice_cut q.operation q.place (toks q.piece) (toks doc)
    → Cuts q doc at cut
cuts room q doc s a ea ec =
    let l = inside doc s room q a in
    record {
      at_is = ea;
      cut_is = ec;
      within = omega arith;
      short = s.short;
      near = omega (arith, place_before q.operation q.place (toks q.piece) (toks doc), s.short);
      some = set_some q.operation q.piece a.piece;
    }

-- ---- what is written

-- operation, place and piece count in the first places
abbrev pub headed : List ℕ → (operation place count : ℕ) → List ℕ
headed second operation place count = operation ∷ place ∷ count ∷ drop 3 second

pub head_put : (b : List ℕ) (x y z : ℕ) → 3 ≤ length b → set (set (set b 0 x) 1 y) 2 z ≡ headed b x y z
head_put [] x y z h = absurd (omega arith)
head_put (a ∷ []) x y z h = absurd (omega arith)
head_put (a ∷ b ∷ []) x y z h = absurd (omega arith)
head_put (a ∷ b ∷ c ∷ l) x y z h = refl

-- the piece behind them
pieced : (b : List ℕ) (x y z : ℕ) (s : List ℕ) (n : ℕ) {b₁ b₂ : List ℕ} → b₁ ≡ headed b x y z → b₂ ≡ paste b₁ 3 s n
    → b₂ ≡ (x ∷ y ∷ z ∷ take n s) ++ drop (suc (suc (suc n))) b
pieced b x y z s n {b₁} {b₂} e₁ e₂ =
    let three : 3 + n ≡ suc (suc (suc n)) = omega arith in
    e₂ ∙ ap (λ l. paste l 3 s n) e₁ ∙ rw three (ap (λ l. x ∷ y ∷ z ∷ (take n s ++ l)) (drop-drop n 3 b ∙ ap (λ k. drop k b) three))

module _ (op place : ℕ) (piece doc : List ℕ) (at cut : ℕ) where
  abbrev q : Request
  q = record { operation = op; place = place; piece = piece }

  module _ (k : Cuts q doc at cut) where
    inverse_is : inverse_by q doc at cut ≡ inverse q doc
    inverse_is = ap₂ (inverse_by q doc) k.at_is k.cut_is ∙ inverse_splice op place piece doc

    count_is : count_by op cut ≡ length (inverse_by q doc at cut).piece
    count_is = go (adds_by op cut) refl
      where
        go : (b : Bool) → adds_by op cut ≡ b → cond b 1 cut ≡ length (cond b (take 1 piece) (take cut (drop at doc)))
        go true e =
            let s = k.some (eqb-true op 4 ((and-eq-true_iff (eqb op 4) (eqb cut 0)).0 e).0) in
            omega (arith, length-take 1 piece)
        go false e = omega (arith, length-take cut (drop at doc), length-drop at doc, k.within)

    -- the count is in range, and there is room
    pub count_few : {n : ℕ} → n ≡ count_by op cut → n ≤ most_tokens
    count_few e = omega (arith, go (adds_by op cut))
      where
        go : (b : Bool) → cond b 1 cut ≤ most_tokens
        go true = omega arith
        go false = omega (arith, k.within, k.short)

    pub at_near : at ≤ most_tokens
    at_near = omega (arith, k.within, k.short)

    pub need_is : {n : ℕ} → n ≡ count_by op cut → 3 + n ≡ needs q doc
    need_is e = omega (arith, count_is, ap (λ (r : Request). length r.piece) inverse_is)

    module _ {y : Bool} (ey : y ≡ adds_by op cut) where
      pub added_room : y ≡ true → 4 ≡ needs q doc
      added_room h = need_is (count_one op cut ey h)

      pub added_some : y ≡ true → 1 ≤ length piece
      added_some h = k.some (eqb-true op 4 ((and-eq-true_iff (eqb op 4) (eqb cut 0)).0 (sym ey ∙ h)).0)

      pub went_room : y ≡ false → 3 + cut ≡ needs q doc
      went_room h = need_is (count_cut op cut ey h)

    module _ (second : List ℕ) {b₁ : List ℕ} {x n : ℕ} (ex : x ≡ operation_by op cut) (en : n ≡ count_by op cut)
        (eh : b₁ ≡ headed second x place n) where
      e : b₁ ≡ headed second (operation_by op cut) place (count_by op cut)
      e = eh ∙ ap₂ (λ i j. headed second i place j) ex en

      whole : {b₂ : List ℕ} (s : List ℕ) (n : ℕ) → n ≡ count_by op cut → take n s ≡ (inverse_by q doc at cut).piece → b₂ ≡ paste b₁ 3 s n → b₂ ≡ noted second (inverse q doc)
      whole s n en es f =
          let x : ℕ = operation_by op cut in
          pieced second x place (count_by op cut) s n e f
          ∙ ap₂ (λ l m. (x ∷ place ∷ count_by op cut ∷ l) ++ drop (suc (suc (suc m))) second) es en
          ∙ ap (λ m. (x ∷ place ∷ m ∷ (inverse_by q doc at cut).piece) ++ drop (suc (suc (suc m))) second) count_is
          ∙ ap (noted second) inverse_is

      module _ {y : Bool} (ey : y ≡ adds_by op cut) where
        pub note_added : {b₂ : List ℕ} → y ≡ true → b₂ ≡ paste b₁ 3 (drop 0 piece) 1 → b₂ ≡ noted second (inverse q doc)
        note_added h f = whole piece 1 (count_one op cut ey h) (rw (← ey, h)) f

        pub note_went : {b₂ : List ℕ} → y ≡ false → b₂ ≡ paste b₁ 3 (drop at doc) cut → b₂ ≡ noted second (inverse q doc)
        note_went h f = whole (drop at doc) cut (count_cut op cut ey h) (rw (← ey, h)) f
