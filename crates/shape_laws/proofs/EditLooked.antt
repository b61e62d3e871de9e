-- What an edit in form looks at: the children of the parent, and those of the piece's elements. Assumes nothing.
use Rattle.std.specs.Prelude.{◌≡◌, true, List, ◌++◌, ℕ, ◌+◌, length, take, drop}
use Rattle.std.proofs.Math.Path.{refl, ap₂}
use Rattle.std.proofs.Common.{sym, ap, ◌∙◌, length-take-le}
use Rattle.paper.specs.declared.Tok.{Tok}
use Rattle.paper.specs.Tokens.{toks, parent}
use Rattle.paper.specs.Shape.{is_element}
use Rattle.paper.specs.Edits.{Request, splice_at, splice_cut, coming, edited, children_of, looked_at}
use Rattle.shape_laws.specs.Five.{Allowed, five_even}
use Rattle.shape_laws.specs.EditJudged.{Asked, allowed_by, edited_toks, touched_toks}
use Rattle.shape_laws.specs.Looked.{over, own}
use Rattle.shape_laws.proofs.Looked.{parent_children_lem, touched_children}
use Rattle.shape_laws.specs.Widths.{Comes, allowed_comes}

module _ (room : ℕ) (q : Request) (doc : List ℕ) (e : is_element (toks doc) ≡ true) (a : Asked room q doc) where
  abbrev d : List Tok
  d = toks doc

  abbrev at : ℕ
  at = splice_at q.operation q.place (toks q.piece) d

  abbrev piece : List Tok
  piece = coming q.operation (toks q.piece)

  abbrev rest : List Tok
  rest = drop (at + splice_cut q.operation q.place (toks q.piece) d) d

  allowed : Allowed d at (splice_cut q.operation q.place (toks q.piece) d) piece
  allowed = allowed_by d (toks q.piece) e q.operation q.place a.operation a.piece a.place

  long : at ≡ length (take at d)
  long = sym (length-take-le at d (five_even d e allowed).2)

  pub looked_is : looked_at q doc ≡ over (take at d) (piece ++ rest) + own piece rest
  unfolding looked_at
  looked_is = ap₂ (λ t x. children_of t 0 x) (touched_toks q doc) (edited_toks q doc) ∙ touched_children (take at d) piece rest at (length piece) long refl

  -- those of the parent alone
  pub parent_looked : children_of (parent (take at (toks (edited q doc)))) 0 (toks (edited q doc)) ≡ over (take at d) (piece ++ rest)
  parent_looked = ap (λ x. children_of (parent (take at x)) 0 x) (edited_toks q doc) ∙ parent_children_lem (take at d) (piece ++ rest) at long

  pub piece_comes : Comes piece
  piece_comes = allowed_comes allowed
