-- How edits move counts: set and drop move none; an edit and the one that takes it back leave true counts as they were. Assumes nothing.
use Rattle.std.specs.Prelude.{◌≡◌, Bool, true, false, cond, not, ℕ, suc, leb, ltb, eqb, ℤ, pos, ◌+ℤ◌, ◌-ℤ◌, length, take, drop}
use Rattle.std.proofs.Math.Path.{refl}
use Rattle.std.proofs.Common.{sym, ap, ap₂, ◌∙◌, arith, eqb-true, drop-drop}
use Rattle.std.proofs.Math.Bool.{and-eq-true_iff}
use mathlib.Core.List.{List, [], ◌∷◌}
use Rattle.std.proofs.Math.IntN.{+ℤ_idr}
use Rattle.paper.specs.declared.Tok.{Tok}
use Rattle.paper.specs.declared.Tok.TheVariants.{Start, End, Text, Attr, Value, Bad}
use Rattle.paper.specs.Basics.{most_tokens, null}
use Rattle.paper.specs.Tokens.{toks, values, slot, held}
use Rattle.paper.specs.Requests.{Request, attr_with, some_values, good_piece, attr_number, attr_at, attr_cut, splice_at, splice_cut, edited}
use Rattle.paper.specs.Back.{went, inverse}
use Rattle.paper.specs.Counts.{tally, TrueCounts, moved_from, moved}
use Rattle.paper.specs.Edits.{form_fault}
use Rattle.basic_laws.specs.Bools.{clash}
use Rattle.shape_laws.specs.EditJudged.{form_iff}
use Rattle.back_laws.specs.Taken.{Document}
use Rattle.back_laws.specs.Back.{gives_back}
use Rattle.count_laws.specs.Laws.{went_toks, moved_true}

-- ---- nothing comes, nothing goes

move_none : (goes comes : List Tok) → ((e : ℕ) → tally e goes ≡ 0) → ((e : ℕ) → tally e comes ≡ 0) → (l : List ℤ) (E e : ℕ) → moved_from goes comes E e l ≡ l
move_none goes comes g c [] E e = refl
move_none goes comes g c (n ∷ l) E e = ap₂ (λ x m. x ∷ m) (here (ltb e E)) (move_none goes comes g c l E (suc e))
  where
    here : (b : Bool) → cond b (n +ℤ pos (tally e comes) -ℤ pos (tally e goes)) n ≡ n
    here true = rw (g e, c e) (+ℤ_idr (n +ℤ pos 0) ∙ +ℤ_idr n)
    here false = refl

-- ---- attributes

values_none : (e : ℕ) (r : List Tok) → tally e (take (values r) r) ≡ 0
values_none e [] = refl
values_none e (Value v ∷ r) = values_none e r
values_none e (Start n ∷ r) = refl
values_none e (End ∷ r) = refl
values_none e (Text n ∷ r) = refl
values_none e (Attr n ∷ r) = refl
values_none e (Bad ∷ r) = refl

held_none : (e a : ℕ) (r : List Tok) → tally e (take (held a r) r) ≡ 0
held_none e a [] = refl
held_none e a (Attr n ∷ r) = go (eqb n a)
  where
    go : (b : Bool) → tally e (take (cond b (suc (values r)) 0) (Attr n ∷ r)) ≡ 0
    go true = values_none e r
    go false = refl
held_none e a (Value v ∷ r) = refl
held_none e a (Start n ∷ r) = refl
held_none e a (End ∷ r) = refl
held_none e a (Text n ∷ r) = refl
held_none e a (Bad ∷ r) = refl

-- what goes at an attribute's place
cut_none : (e a place : ℕ) (d : List Tok) → tally e (take (attr_cut a place d) (drop (attr_at a place d) d)) ≡ 0
cut_none e a place d =
    let r : List Tok = drop (suc place) d in
    ap (λ l. tally e (take (attr_cut a place d) l)) (sym (drop-drop (slot a r) (suc place) d)) ∙ held_none e a (drop (slot a r) r)

-- what comes with a set
all_values : (e : ℕ) (p : List Tok) → values p ≡ length p → tally e p ≡ 0
all_values e [] h = refl
all_values e (Value v ∷ p) h = all_values e p (omega arith)
all_values e (Start n ∷ p) h = absurd (omega arith)
all_values e (End ∷ p) h = absurd (omega arith)
all_values e (Text n ∷ p) h = absurd (omega arith)
all_values e (Attr n ∷ p) h = absurd (omega arith)
all_values e (Bad ∷ p) h = absurd (omega arith)

set_none : (e : ℕ) (p : List Tok) → attr_with some_values p ≡ true → tally e p ≡ 0
set_none e [] h = clash h refl
set_none e (Attr a ∷ p) h = all_values e p (eqb-true (values p) (length p) ((and-eq-true_iff (not (null p)) (eqb (values p) (length p))).0 h).1)
set_none e (Start n ∷ p) h = clash h refl
set_none e (End ∷ p) h = clash h refl
set_none e (Text n ∷ p) h = clash h refl
set_none e (Value v ∷ p) h = clash h refl
set_none e (Bad ∷ p) h = clash h refl

module _ (E room place : ℕ) (piece doc : List ℕ) (counts : List ℤ) where
  abbrev by : ℕ → Request
  by op = record { operation = op; place = place; piece = piece }

  went_none : (op e : ℕ) → splice_at op place (toks piece) (toks doc) ≡ attr_at (attr_number (toks piece)) place (toks doc)
      → splice_cut op place (toks piece) (toks doc) ≡ attr_cut (attr_number (toks piece)) place (toks doc) → tally e (toks (went (by op) doc)) ≡ 0
  went_none op e at cut =
      ap (tally e) (went_toks (by op) doc) ∙ ap₂ (λ n i. tally e (take n (drop i (toks doc)))) cut at ∙ cut_none e (attr_number (toks piece)) place (toks doc)

  -- "set and drop, which move none"
  pub set_moves_none : form_fault room (by 4) doc ≡ 0 → moved E (by 4) doc counts ≡ counts
  unfolding moved good_piece
  set_moves_none f =
      let (_, good) = (and-eq-true_iff (leb (length (toks piece)) most_tokens) (attr_with some_values (toks piece))).0 ((form_iff room (by 4) doc).0 f).piece in
      move_none (toks (went (by 4) doc)) (toks piece) (λ e. went_none 4 e refl refl) (λ e. set_none e (toks piece) good) counts E 0

  pub drop_moves_none : moved E (by 5) doc counts ≡ counts
  unfolding moved
  drop_moves_none = move_none (toks (went (by 5) doc)) [] (λ e. went_none 5 e refl refl) (λ e. refl) counts E 0

-- ---- there and back

-- "item 2's way back": the inverse moves true counts back
pub moves_back : (E room : ℕ) (q : Request) (doc : List ℕ) (counts : List ℤ) → Document doc → form_fault room q doc ≡ 0 → TrueCounts E doc counts
    → moved E (inverse q doc) (edited q doc) (moved E q doc counts) ≡ counts
moves_back E room q doc counts s f c =
    rw (gives_back room q doc s f) at (moved_true E (inverse q doc) (edited q doc) (moved E q doc counts) (moved_true E q doc counts c)) ∙ sym c
