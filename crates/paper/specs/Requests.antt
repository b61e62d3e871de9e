-- "The five edits": what an edit is, which pieces and places are good, and the splice that makes it. Assumes nothing.
use Rattle.std.specs.Prelude.{Bool, true, false, cond, not, ◌&&◌, ◌||◌, List, [], ◌∷◌, ◌++◌, ℕ, suc, ◌+◌, leb, ltb, eqb, length, take, drop}
use Rattle.paper.specs.declared.Tok.{Tok}
use Rattle.paper.specs.declared.Tok.TheVariants.{Start, End, Text, Attr, Value, Bad}
use Rattle.paper.specs.Basics.{most_tokens, null}
use Rattle.paper.specs.Tokens.{toks, is_start, item_size, values, slot, held, touched}
use Rattle.paper.specs.Shape.{is_element, shallow}

-- "An edit is an operation, a place and a piece." 1 insert, 2 remove, 3 replace, 4 set, 5 drop
pub record Request : Type 0 where
  pub operation : ℕ
  pub place : ℕ
  pub piece : List ℕ

-- one of five by the operation
module _ {A : Type 0} where
  abbrev pub by_operation : ℕ → A → A → A → A → A → A
  by_operation op insert remove replace set drop =
      cond (eqb op 1) insert (cond (eqb op 2) remove (cond (eqb op 3) replace (cond (eqb op 4) set drop)))

-- ---- the piece (4)

abbrev pub is_text : List Tok → Bool
is_text [] = false
is_text (Text n ∷ p) = null p
is_text (Start n ∷ p) = false
is_text (End ∷ p) = false
is_text (Attr n ∷ p) = false
is_text (Value n ∷ p) = false
is_text (Bad ∷ p) = false

-- "one element of good shape or one text"; "over 64 deep by itself, is bad"
abbrev pub good_item : List Tok → Bool
good_item p = is_text p || (is_element p && shallow p)

-- the attribute that begins the piece, and what follows it satisfies P
abbrev pub attr_with : (List Tok → Bool) → List Tok → Bool
attr_with P [] = false
attr_with P (Attr a ∷ p) = P p
attr_with P (Start n ∷ p) = false
attr_with P (End ∷ p) = false
attr_with P (Text n ∷ p) = false
attr_with P (Value n ∷ p) = false
attr_with P (Bad ∷ p) = false

-- one or more values, and nothing else
abbrev pub some_values : List Tok → Bool
some_values p = not (null p) && eqb (values p) (length p)

-- "A piece over 8,192 tokens [..] is bad (4)." insert, replace: one element or one text; "remove: empty piece"; "set: the piece is
-- an attribute and one or more values"; "drop: the piece is one attribute token"
unfoldable pub good_piece : ℕ → List Tok → Bool
good_piece op p = leb (length p) most_tokens && by_operation op (good_item p) (null p) (good_item p) (attr_with some_values p) (attr_with null p)

-- ---- the place (6)

abbrev pub opens : Tok → Bool
opens (Start n) = true
opens (Text n) = true
opens End = false
opens (Attr n) = false
opens (Value n) = false
opens Bad = false

abbrev pub opens_or_ends : Tok → Bool
opens_or_ends (Start n) = true
opens_or_ends (Text n) = true
opens_or_ends End = true
opens_or_ends (Attr n) = false
opens_or_ends (Value n) = false
opens_or_ends Bad = false

-- P holds of the token that begins d
abbrev pub at_head : (Tok → Bool) → List Tok → Bool
at_head P [] = false
at_head P (t ∷ d) = P t

-- the attribute number of a piece
abbrev pub attr_number : List Tok → ℕ
attr_number [] = 0
attr_number (Attr a ∷ p) = a
attr_number (Start n ∷ p) = 0
attr_number (End ∷ p) = 0
attr_number (Text n ∷ p) = 0
attr_number (Value n ∷ p) = 0
attr_number (Bad ∷ p) = 0

-- where the attribute a of the element that starts at place is or would be, and how many tokens it has there
abbrev pub attr_at : ℕ → ℕ → List Tok → ℕ
attr_at a place d = suc place + slot a (drop (suc place) d)

abbrev pub attr_cut : ℕ → ℕ → List Tok → ℕ
attr_cut a place d = held a (drop (slot a (drop (suc place) d)) (drop (suc place) d))

-- insert: "That token is a start, a text or an end, and the place is not 0." remove: "the token is a start or a text, not at
-- place 0". replace: "the token is a start or text; at place 0 a text as piece is 6". set: "the token is a start". drop: "the
-- place is a start that has that attribute (else 6)". No token stands at the length or past it.
unfoldable pub good_place : ℕ → ℕ → List Tok → List Tok → Bool
good_place op place p d =
    by_operation op
    (at_head opens_or_ends (drop place d) && ltb 0 place)
    (at_head opens (drop place d) && ltb 0 place)
    (at_head opens (drop place d) && (ltb 0 place || not (is_text p)))
    (is_start (drop place d))
    (is_start (drop place d) && ltb 0 (attr_cut (attr_number p) place d))

-- ---- the edit as one splice: at a place a count of tokens goes, and tokens come

abbrev pub splice_at : ℕ → ℕ → List Tok → List Tok → ℕ
splice_at op place p d = by_operation op place place place (attr_at (attr_number p) place d) (attr_at (attr_number p) place d)

abbrev pub splice_cut : ℕ → ℕ → List Tok → List Tok → ℕ
splice_cut op place p d =
    by_operation op 0 (item_size (drop place d)) (item_size (drop place d)) (attr_cut (attr_number p) place d) (attr_cut (attr_number p) place d)

module _ {A : Type 0} where
  -- "set: [..] the attribute is added or its values replaced"; "drop: [..] it goes with its values"; "remove: [..] the whole
  -- element or the text goes"
  abbrev pub coming : ℕ → List A → List A
  coming op p = by_operation op p [] p p []

  abbrev pub splice : ℕ → ℕ → List A → List A → List A
  splice at n p d = take at d ++ (p ++ drop (at + n) d)

-- the edited document
unfoldable pub edited : Request → List ℕ → List ℕ
edited q doc =
    splice (splice_at q.operation q.place (toks q.piece) (toks doc)) (splice_cut q.operation q.place (toks q.piece) (toks doc))
    (coming q.operation q.piece) doc

-- "7, 8 and 9 only at touched elements: the parent (for set and drop, the element itself) and all elements of the piece. Places
-- are those of the edited document."
unfoldable pub touched_by : Request → List ℕ → ℕ → Bool
touched_by q doc =
    touched (splice_at q.operation q.place (toks q.piece) (toks doc)) (length (coming q.operation q.piece)) (toks (edited q doc))
