-- The children looked at: the parent's, and those of the piece's elements. Assumes nothing.
use Rattle.std.specs.Prelude.{◌≡◌, List, [], ◌∷◌, ◌++◌, ℕ, zero, suc, ◌+◌, ◌-◌, ◌≤◌, ◌<◌, length, take, drop}
use Rattle.std.proofs.Common.{sym, ap, ap₂, ◌∙◌, add-one, arith, length-drop, length-take-le}
use Rattle.std.proofs.lemmas.List.{length-map}
use Rattle.paper.specs.declared.Tok.{Tok}
use Rattle.paper.specs.declared.Tok.TheVariants.{Start, End, Text, Attr, Value, Bad}
use Rattle.paper.specs.Tokens.{tok_of, toks, kids, touched}
use Rattle.paper.specs.Edits.{opens, children_of}
use Rattle.shape_laws.specs.Bridge.{length_toks, toks_take, toks_drop}
use Rattle.shape_laws.specs.Depth.{count, count_few}
use Rattle.shape_laws.specs.Touch.{parent_of}
use Rattle.shape_laws.specs.Splice.{parts}
use Rattle.shape_laws.specs.Looked.{over, over_parent, over_none}
use Rattle.shape_laws.proofs.Looked.{touched_children}
use Rattle.shape_laws.specs.Widths.{Comes}
use Rattle.shape_laws.proofs.Widths.{own_is}

-- ---- the children of an element

-- there are no more children than tokens
pub kids_few : (k : ℕ) (d : List Tok) → length (kids k d) ≤ length d
kids_few k [] = omega arith
kids_few zero (Start n ∷ d) = omega (arith, kids_few 1 d)
kids_few (suc k) (Start n ∷ d) = omega (arith, kids_few (suc (suc k)) d)
kids_few zero (End ∷ d) = omega arith
kids_few (suc k) (End ∷ d) = omega (arith, kids_few k d)
kids_few zero (Text n ∷ d) = omega (arith, kids_few zero d)
kids_few (suc k) (Text n ∷ d) = omega (arith, kids_few (suc k) d)
kids_few zero (Attr n ∷ d) = omega (arith, kids_few zero d)
kids_few (suc k) (Attr n ∷ d) = omega (arith, kids_few (suc k) d)
kids_few zero (Value n ∷ d) = omega (arith, kids_few zero d)
kids_few (suc k) (Value n ∷ d) = omega (arith, kids_few (suc k) d)
kids_few zero (Bad ∷ d) = omega (arith, kids_few zero d)
kids_few (suc k) (Bad ∷ d) = omega (arith, kids_few (suc k) d)

-- ---- the document, by what stands before the piece, the piece, and what stands behind it

module _ (doc : List ℕ) (at n : ℕ) (h : at + n ≤ length doc) where
  abbrev d : List Tok
  d = toks doc

  abbrev ahead : List Tok
  ahead = toks (take at doc)

  abbrev piece : List Tok
  piece = toks (take n (drop at doc))

  abbrev behind : List Tok
  behind = drop (at + n) d

  ahead_long : length ahead ≡ at
  ahead_long = length_toks doc at (omega arith)

  piece_long : length piece ≡ n
  piece_long = length-map (take n (drop at doc)) tok_of ∙ length-take-le n (drop at doc) (omega (arith, length-drop at doc))

  split : d ≡ ahead ++ (piece ++ behind)
  split =
      sym (parts at n d)
      ∙ ap₂ (λ x y. x ++ (y ++ behind)) (sym (toks_take at doc)) (sym (toks_take n (drop at doc) ∙ ap (take n) (toks_drop at doc)))

  looked : Comes piece → children_of (touched at n d) 0 d ≡ over ahead (piece ++ behind) + (count opens piece - 1)
  looked c =
      ap (λ x. children_of (touched at n x) 0 x) split
      ∙ touched_children ahead piece behind at n (sym ahead_long) (sym piece_long)
      ∙ ap (λ x. over ahead (piece ++ behind) + x) (own_is piece behind c)

  -- ---- as the code has it

  module _ (c : Comes piece) {m parent : ℕ} (em : m ≡ count opens piece - 1) (ep : parent ≡ parent_of ahead) where
    -- without a parent
    pub looked_alone : at ≤ parent → m ≡ children_of (touched at n d) 0 d
    looked_alone g =
        let z = over_none ahead (piece ++ behind) (omega (arith, ahead_long)) in
        omega (arith, looked c, z)

    pub looked_both : {k : ℕ} → parent < at → k ≡ length (kids zero (drop (parent + 1) d)) → k + m ≡ children_of (touched at n d) 0 d
    looked_both {k = k} g ek =
        let z = over_parent ahead (piece ++ behind) (omega (arith, ahead_long)) in
        let same : length (kids zero (drop (suc (parent_of ahead)) (ahead ++ (piece ++ behind)))) ≡ k
        = ap₂ (λ x y. length (kids zero (drop x y))) (ap suc (sym ep) ∙ sym (add-one parent)) (sym split) ∙ sym ek in
        omega (arith, looked c, z, same)

  -- what the piece adds is small
  pub piece_small : count opens piece ≤ n
  piece_small = omega (arith, count_few opens piece, piece_long)
