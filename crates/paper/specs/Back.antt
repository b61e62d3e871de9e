-- Item 2, "Step back": the edit that takes an edit back, and how it stands in the second buffer. Assumes nothing.
use Rattle.std.specs.Prelude.{Bool, cond, List, [], ◌∷◌, ◌++◌, ℕ, eqb, length, get_or, take, drop}
use Rattle.paper.specs.Tokens.{toks}
use Rattle.paper.specs.Requests.{Request, by_operation, attr_number, attr_cut, splice_at, splice_cut}

-- the tokens that go
unfoldable pub went : Request → List ℕ → List ℕ
went q doc =
    take (splice_cut q.operation q.place (toks q.piece) (toks doc)) (drop (splice_at q.operation q.place (toks q.piece) (toks doc)) doc)

-- a set adds the attribute: the element has none of that number
abbrev pub adds : Request → List ℕ → Bool
adds q doc = eqb (attr_cut (attr_number (toks q.piece)) q.place (toks doc)) 0

-- "Each done edit also writes [..] the edit that takes it back [..]. The place is the same; a set is undone by a drop if it added the
-- attribute, else by a set." An insert is undone by a remove, a remove by an insert of what went, a replace by a replace and a drop by a
-- set of what went.
unfoldable pub inverse : Request → List ℕ → Request
inverse q doc = record {
  operation = by_operation q.operation 2 1 3 (cond (adds q doc) 5 4) 4;
  place = q.place;
  piece = by_operation q.operation [] (went q doc) (went q doc) (cond (adds q doc) (take 1 q.piece) (went q doc)) (went q doc);
}

-- "operation, place, piece count and piece, as 32-bit numbers"
abbrev pub numbers_of : Request → List ℕ
numbers_of q = q.operation ∷ q.place ∷ length q.piece ∷ q.piece

-- the edit that stands in a buffer, from its first place on
abbrev pub edit_in : List ℕ → Request
edit_in second = record { operation = get_or second 0 0; place = get_or second 1 0; piece = take (get_or second 2 0) (drop 3 second) }

-- how many places of the second buffer the inverse needs
abbrev pub needs : Request → List ℕ → ℕ
needs q doc = length (numbers_of (inverse q doc))

-- "The second buffer keeps its places after the inverse."
abbrev pub noted : List ℕ → Request → List ℕ
noted second q = numbers_of q ++ drop (length (numbers_of q)) second
