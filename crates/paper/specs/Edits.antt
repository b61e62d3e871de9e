-- "The five edits": when an edit is refused, and what it leaves. Assumes nothing.
use Rattle.std.specs.Prelude.{Bool, cond, ◌&&◌, List, [], ◌∷◌, ◌++◌, ℕ, zero, suc, ◌+◌, ◌-◌, max, leb, eqb, length, take, drop, replicate, ℤ, pos, ◌-ℤ◌}
use Rattle.paper.specs.declared.Tok.{Tok}
use Rattle.paper.specs.Basics.{most_tokens, between}
use Rattle.paper.specs.Tokens.{toks, starts, kids}
use Rattle.paper.specs.Shape.{shallow, shape_of}
use Rattle.paper.specs.Table.{proper}
use Rattle.paper.specs.Rules.{Rules, of_table}
use Rattle.paper.specs.Judgement.{Answer, judge}
use Rattle.paper.specs.Back.{inverse, needs, noted}
use Rattle.paper.specs.Counts.{moved, counts_fault}
-- what an edit is stands there, and is passed on
pub use Rattle.paper.specs.Requests.{Request, by_operation, is_text, good_item, attr_with, some_values, opens, opens_or_ends, at_head, attr_number, attr_at, attr_cut, splice_at, splice_cut, coming, splice}
unfoldable pub use Rattle.paper.specs.Requests.{good_piece, good_place, edited, touched_by}

-- ---- the children looked at

-- Item 10: "children and texts of the touched parent (or of the set or dropped element) in the edited document, plus those of every element
-- in the piece": of the elements that start at a touched place; d's first token is at place i. "a replaced root has no parent, which
-- counts 0".
abbrev pub children_of : (touched : ℕ → Bool) → ℕ → List Tok → ℕ
children_of touched i [] = 0
children_of touched i (t ∷ d) = cond (touched i && starts t) (length (kids zero d)) 0 + children_of touched (suc i) d

-- "the number of children looked at"
unfoldable pub looked_at : Request → List ℕ → ℕ
looked_at q doc = children_of (touched_by q doc) 0 (toks (edited q doc))

-- ---- the answer

-- what a done edit makes
pub record Made : Type 0 where
  -- the document's tokens after the edit
  pub tokens : List ℕ
  -- Item 10: "A done edit reports the number of children looked at"
  pub children : ℕ
  -- Item 2: "Each done edit also writes [..] the edit that takes it back"
  pub back : Request
  -- Item 7: the counts, "carried along by edits"
  pub counts : List ℤ

abbrev pub made : (E : ℕ) → Request → (doc : List ℕ) → (counts : List ℤ) → Made
made E q doc counts = record { tokens = edited q doc; children = looked_at q doc; back = inverse q doc; counts = moved E q doc counts }

pub data Edited : Type 0 where
  -- number and place
  refused : ℕ → ℕ → Edited
  done : Made → Edited

-- "result over 8,192 tokens, over 64 deep or over the buffer (5)"
abbrev pub fits : ℕ → List ℕ → Bool
fits room new = leb (length new) most_tokens && shallow (toks new) && leb (length new) room

-- "operation not 1 to 5 (6); piece (4); place (6); result [too large] (5)": the number for an edit of a document with shape, in a
-- buffer of `room` places, before anything is judged; 0 if there is none
unfoldable pub form_fault : ℕ → Request → List ℕ → ℕ
form_fault room q doc =
    cond (between 1 5 q.operation)
    (cond (good_piece q.operation (toks q.piece))
    (cond (good_place q.operation q.place (toks q.piece) (toks doc))
    (cond (fits room (edited q doc)) 0 5)
    6)
    4)
    6

-- the first of two faults
abbrev pub or_next : ℕ → ℕ → ℕ
or_next zero n = n
or_next (suc k) n = suc k

-- Item 2: "second buffer shorter than the inverse needs is 5, after document 01's own 5 and before judgement": `second` is how many places
-- it has
unfoldable pub size_fault : (room second : ℕ) → Request → List ℕ → ℕ
size_fault room second q doc = or_next (form_fault room q doc) (cond (leb (needs q doc) second) 0 5)

-- Item 7: "new 15, [..] directly after 5": the number before anything is judged; 0 if there is none
unfoldable pub limit_fault : (E room second : ℕ) → Request → (doc : List ℕ) → (counts : List ℤ) → ℕ
limit_fault E room second q doc counts = or_next (size_fault room second q doc) (counts_fault (moved E q doc counts))

-- the first fault, before the judgement or by it; else the edit is done
abbrev pub answered : ℕ → Answer → Made → Edited
answered zero a m = cond (eqb a.0 0) (done m) (refused a.0 a.1)
answered (suc n) a m = refused (suc n) 0

-- "Then the edited document is judged as above"
unfoldable pub editing : Rules → (room second : ℕ) → Request → (doc : List ℕ) → (counts : List ℤ) → Edited
editing R room second q doc counts =
    answered (limit_fault R.elements room second q doc counts) (judge R (touched_by q doc) (toks (edited q doc))) (made R.elements q doc counts)

-- "The answer has number, place, used length, and the change in length, a signed count that is negative when tokens went."
-- With them, the children looked at, every place of the buffer and of the second one, and the counts.
pub record Outcome : Type 0 where
  pub number : ℕ
  pub place : ℕ
  pub used : ℕ
  pub change : ℤ
  pub children : ℕ
  pub buffer : List ℕ
  pub back : List ℕ
  pub counts : List ℤ

-- "Done: places from the new length to the old hold 0, later ones are untouched."
abbrev pub written : List ℕ → ℕ → List ℕ → List ℕ
written buffer used new = new ++ (replicate (used - length new) 0 ++ drop (max used (length new)) buffer)

-- "Refusals leave everything lent as it was; an edit's gives the old length and change 0." Item 10: "Refused edits report 0."
abbrev pub outcome : (buffer : List ℕ) → (used : ℕ) → (second : List ℕ) → (counts : List ℤ) → Edited → Outcome
outcome buffer used second counts (refused n p) =
    record { number = n; place = p; used = used; change = pos 0; children = 0; buffer = buffer; back = second; counts = counts }
outcome buffer used second counts (done m) = record {
  number = 0;
  place = 0;
  used = length m.tokens;
  change = pos (length m.tokens) -ℤ pos used;
  children = m.children;
  buffer = written buffer used m.tokens;
  back = noted second m.back;
  counts = m.counts;
}

-- "Order: table (13); document shape (4); [the rest]"
unfoldable pub edit_by : Rules → (buffer : List ℕ) → (used : ℕ) → Request → (second : List ℕ) → (counts : List ℤ) → Edited
edit_by R buffer used q second counts =
    cond (shape_of buffer used) (editing R (length buffer) (length second) q (take used buffer) counts) (refused 4 0)

unfoldable pub edit : (table buffer : List ℕ) → (used : ℕ) → Request → (second : List ℕ) → (counts : List ℤ) → Outcome
edit table buffer used q second counts =
    outcome buffer used second counts (cond (proper table) (edit_by (of_table table) buffer used q second counts) (refused 13 0))
