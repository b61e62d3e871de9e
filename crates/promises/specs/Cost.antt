-- What is promised of item 10, the children looked at, stated of any calls. That a done edit reports their number stands in `Left`, that a
-- refused one reports 0 in `Kept`, and whose children they are on the tree in `EditIsTreeEdit` (Statements). Assumes nothing.
use Rattle.std.specs.Prelude.{◌≡◌, List, ℕ, ◌+◌, ◌≤◌, ℤ, length, take}
use Rattle.paper.specs.Tokens.{toks, parent}
use Rattle.paper.specs.Edits.{Request, Outcome, splice_at, edited, children_of}
use Rattle.promises.specs.Calls.{Calls}

-- "children and texts of the touched parent (or of the set or dropped element) in the edited document": of the element that is open where the
-- piece comes, and of no other
abbrev pub parent_children : Request → List ℕ → ℕ
parent_children q doc =
    children_of (parent (take (splice_at q.operation q.place (toks q.piece) (toks doc)) (toks (edited q doc)))) 0 (toks (edited q doc))

module _ (calls : Calls) where
  open calls use {Performs}

  -- "It is never above the first of these plus the piece's tokens."
  abbrev pub EditCostBounded : Type 0
  EditCostBounded = (table buffer : List ℕ) (used : ℕ) (q : Request) (second : List ℕ) (counts : List ℤ) (o : Outcome) → Performs table buffer used q second counts o → o.number ≡ 0
      → o.children ≤ parent_children q (take used buffer) + length q.piece
