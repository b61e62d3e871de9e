-- Step back: the edit that takes an edit back is in form, and gives back every token and the old length. Assumes nothing.
use Rattle.std.specs.Prelude.{◌≡◌, ◌&&◌, ℕ, ◌+◌, ◌≤◌, leb}
use Rattle.std.proofs.Common.{sym, ◌∙◌, arith}
use Rattle.std.proofs.Math.Path.{ap}
use Rattle.std.proofs.Math.Bool.{Bool, and-eq-true_iff}
use mathlib.Core.List.{List}
use borrow.Author.Tests.{le-leb, leb-true}
use Rattle.std.proofs.Math.ListN.{length, length-map}
use Rattle.paper.specs.declared.Tok.{Tok}
use Rattle.paper.specs.Basics.{most_tokens, null}
use Rattle.paper.specs.Tokens.{toks, tok_of}
use Rattle.paper.specs.Shape.{shallow}
use Rattle.paper.specs.Edits.{Request, by_operation, good_item, attr_with, some_values, good_piece, splice_at, splice_cut, coming, edited, form_fault}
use Rattle.paper.specs.Back.{went, inverse, needs}
use Rattle.shape_laws.specs.EditJudged.{Asked, form_iff, coming_toks, edited_toks}
use Rattle.back_laws.specs.Splices.{splice_back}
use Rattle.back_laws.specs.Undoes.{made}
use Rattle.back_laws.specs.Taken.{Document, Taken, inside, taken, edited_document}

module _ (room : ℕ) (q : Request) (doc : List ℕ) (s : Document doc) (f : form_fault room q doc ≡ 0) where
  abbrev new : List ℕ
  new = edited q doc

  abbrev back : Request
  back = inverse q doc

  abbrev at : ℕ
  at = splice_at q.operation q.place (toks q.piece) (toks doc)

  abbrev cut : ℕ
  cut = splice_cut q.operation q.place (toks q.piece) (toks doc)

  asked : Asked room q doc
  asked = (form_iff room q doc).0 f

  its : Taken q doc
  its = taken doc s room q asked

  pub new_document : Document new
  new_document = edited_document doc s room q asked

  -- "gives back every used token and the old length"
  pub gives_back : edited back new ≡ doc
  unfolding edited inverse went
  gives_back =
      let u = its.undoes in
      let n : toks new ≡ made q.operation q.place (toks q.piece) (toks doc) = edited_toks q doc in
      let same : length (coming q.operation (toks q.piece)) ≡ length (coming q.operation q.piece) =
      ap length (sym (coming_toks q doc)) ∙ length-map (coming q.operation q.piece) tok_of in
      rw (n, u.same_at, u.same_cut, same, its.comes) (splice_back at cut (coming q.operation q.piece) doc (omega (arith, inside doc s room q asked)))

  pub new_fits : length new ≤ room
  new_fits = leb-true (length new) room ((and-eq-true_iff (leb (length new) most_tokens && shallow (toks new)) (leb (length new) room)).0 asked.size).1

  -- the most that an inverse needs of the second buffer: operation, place, piece count and piece
  pub needs_most : needs q doc ≤ 3 + most_tokens
  unfolding good_piece
  needs_most =
      let p : List Tok = toks back.piece in
      let rest : Bool = by_operation back.operation (good_item p) (null p) (good_item p) (attr_with some_values p) (attr_with null p) in
      omega (arith, leb-true (length p) most_tokens ((and-eq-true_iff (leb (length p) most_tokens) rest).0 its.undoes.piece).0, length-map back.piece tok_of)

  -- "that edit is always done in the same document buffer": it is in form, at an allowed place and within the limits
  pub back_in_form : length doc ≤ room → form_fault room back new ≡ 0
  unfolding inverse
  back_in_form h =
      let u = its.undoes in
      (form_iff room back new).1 (record {
        operation = u.operation;
        piece = u.piece;
        place = rw (edited_toks q doc) u.place;
        size = rw (gives_back, le-leb (length doc) most_tokens s.short, s.low, le-leb (length doc) room h);
      })
