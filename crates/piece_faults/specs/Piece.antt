-- The first fault among the elements of a piece of a document, from that of the piece by itself. Assumes nothing.
use Rattle.std.specs.Prelude.{◌≡◌, refl, List, ◌++◌, ℕ, zero, suc, ◌+◌, ◌-◌, ◌≤◌, length, take, drop}
use Rattle.std.proofs.Common.{sym, ap, subst, ◌∙◌, zero-add, arith, le-leb, lt-ltb, le-ltb, length-drop, take-append-drop, take-add, drop_at, length-take-le}
use Rattle.std.proofs.lemmas.List.{length-map}
use Rattle.paper.specs.declared.Tok.{Tok}
use Rattle.paper.specs.Basics.{most_tokens}
use Rattle.paper.specs.Tokens.{tok_of, toks}
use Rattle.paper.specs.Rules.{Rules, of_table}
use Rattle.paper.specs.Judgement.{Answer, or_else, first, element_fault, place_of, whole}
use Rattle.shape_laws.specs.Bridge.{toks_take, toks_drop}
use Rattle.shape_laws.specs.Widths.{Comes}
use Rattle.paper.specs.declared.Fault.{Fault}
use Rattle.paper.specs.Codes.{number_of}
use Rattle.paper_laws.specs.Codes.{refused}
use Rattle.judge.specs.Elements.{span, first_in, first_whole, looking_begin}
use Rattle.piece_faults.specs.Alone.{Only, moved_to, first_alone, first_moved, first_within}

-- the first fault among the elements of a piece, by the piece alone
abbrev pub alone : (table piece : List ℕ) → Answer
alone table piece = first (element_fault (of_table table)) (place_of (of_table table)) whole 0 (toks piece)

pub alone_is : (table piece : List ℕ) → first_in table piece 0 (length piece) ≡ alone table piece
alone_is table piece = first_whole table piece

-- its place lies in the piece, or behind it
alone_within : (table piece : List ℕ) → (alone table piece).1 ≤ length piece
alone_within table piece = omega (arith, first_within (of_table table) 0 (toks piece), length-map piece tok_of)

-- ---- counted from the place of the piece

-- the number and the place of a fault
abbrev pub told_of : Fault → Answer
told_of f = (number_of f.refusal, f.place)

pub moved_fault : (at : ℕ) (f : Fault) → (number_of f.refusal, f.place + at) ≡ moved_to at (told_of f)
moved_fault at f = go (number_of f.refusal) (refused f.refusal)
  where
    go : (n : ℕ) → (n ≡ 0 → ⊥) → (n, f.place + at) ≡ or_else n (f.place + at) (n, f.place)
    go zero h = absurd (h refl)
    go (suc n) h = refl

-- the first fault among the elements of a piece at a place of a document
abbrev pub first_of : (table piece : List ℕ) (at : ℕ) → Answer
first_of table piece at = moved_to at (alone table piece)

module _ (table piece : List ℕ) (at : ℕ) where
  pub piece_none : (0, 0) ≡ first_in table piece 0 (length piece) → (0, 0) ≡ first_of table piece at
  piece_none e = ap (moved_to at) (e ∙ alone_is table piece)

  module _ (f : Fault) (e : told_of f ≡ first_in table piece 0 (length piece)) where
    pub piece_within : length piece + at ≤ most_tokens → (f.place ≤ most_tokens) × (at ≤ most_tokens)
    piece_within h = (omega (arith, ap (λ (x : Answer). x.1) (e ∙ alone_is table piece), alone_within table piece), omega arith)

    pub piece_moved : (w : Fault) → told_of w ≡ moved_to at (told_of f) → told_of w ≡ first_of table piece at
    piece_moved w ew = ew ∙ ap (moved_to at) (e ∙ alone_is table piece)

pub cut_out : {A : Type 0} (at n : ℕ) (l : List A) → at ≤ length l → drop at (take (at + n) l) ≡ take n (drop at l)
cut_out at n l h = ap (drop at) (take-add at n l) ∙ drop_at (take at l) (take n (drop at l)) at (length-take-le at l h)

-- it is that of the document, where one element comes, one text, or neither
module _ (table doc : List ℕ) (at n : ℕ) (h : at + n ≤ length doc) where
  abbrev d : List Tok
  d = toks doc

  abbrev piece : List Tok
  piece = toks (take n (drop at doc))

  rest : take n (drop at d) ≡ piece
  rest = ap (take n) (sym (toks_drop at doc)) ∙ sym (toks_take n (drop at doc))

  pub piece_is : Comes (drop at (toks (take (at + n) doc))) → first_of table (take n (drop at doc)) at ≡ first_in table doc at (at + n)
  piece_is c =
      let R : Rules = of_table table in
      let size : length piece ≡ n = ap length (sym rest) ∙ length-take-le n (drop at d) (omega (arith, length-drop at d, length-map doc tok_of)) in
      let comes : Comes piece = subst Comes (sym (toks_drop at (take (at + n) doc)) ∙ ap toks (cut_out at n doc (omega arith))) c in
      let only : Only (of_table table) (span at (at + n)) at (length piece) = record {
        here = λ j g. rw (le-leb at (at + j) (omega arith), lt-ltb (at + j) (at + n) (omega arith));
        past = λ j. rw (le-leb at (at + length piece + j) (omega arith), le-ltb (at + length piece + j) (at + n) (omega arith));
      } in
      sym (first_moved R at 0 piece)
      ∙ ap (λ i. first (element_fault R) (place_of R) whole i piece) (zero-add at)
      ∙ sym (first_alone R (span at (at + n)) piece (drop n (drop at d)) at comes only)
      ∙ ap (λ x. first (element_fault R) (place_of R) (span at (at + n)) at (x ++ drop n (drop at d))) (sym rest)
      ∙ ap (first (element_fault R) (place_of R) (span at (at + n)) at) (take-append-drop n (drop at d))
      ∙ sym (looking_begin table doc at (at + n)).left
