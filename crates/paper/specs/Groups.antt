-- Item 9, "Rename a panel": a group of edits, worked on a second lent buffer and judged at its end. Assumes nothing.
use Rattle.std.specs.Prelude.{◌≡◌, cond, List, [], ◌∷◌, ℕ, suc, max, leb, eqb, ℤ, pos, ◌-ℤ◌, length, take}
use Rattle.paper.specs.Tokens.{toks}
use Rattle.paper.specs.Shape.{shape_of}
use Rattle.paper.specs.Table.{proper}
use Rattle.paper.specs.Rules.{Rules, of_table}
use Rattle.paper.specs.Judgement.{Answer, judge, whole}
use Rattle.paper.specs.Requests.{Request, edited}
use Rattle.paper.specs.Edits.{form_fault, written}
use Rattle.paper.specs.Lists.{Split, fault, edits, split_list}

-- ---- the edits, one after another

-- what the edits of a group came to: a refused one's number and which it was, else 0 and 0; the last document reached, and the length of the
-- longest reached
pub record Work : Type 0 where
  pub number : ℕ
  pub which : ℕ
  pub doc : List ℕ
  pub longest : ℕ

-- "Each edit is tested for form, place and size (the first buffer's) in turn": the k-th edit is next, `doc` is the document that was
-- reached, and the first buffer has `room` places
abbrev pub worked : (room k longest : ℕ) → (doc : List ℕ) → List Request → Work
worked room k longest doc [] = record { number = 0; which = 0; doc = doc; longest = longest }
worked room k longest doc (q ∷ l) =
    cond (eqb (form_fault room q doc) 0)
    (worked room (suc k) (max longest (length (edited q doc))) (edited q doc) l)
    (record { number = form_fault room q doc; which = k; doc = doc; longest = longest })

-- ---- the call

-- the answer, and every place of both buffers
pub record GroupOutcome : Type 0 where
  pub number : ℕ
  pub place : ℕ
  pub used : ℕ
  pub change : ℤ
  pub which : ℕ
  pub buffer : List ℕ
  pub second : List ℕ

-- "all before any edit": both buffers are as they were
abbrev pub not_begun : (buffer : List ℕ) → (used : ℕ) → (second : List ℕ) → ℕ → GroupOutcome
not_begun buffer used second n = record { number = n; place = 0; used = used; change = pos 0; which = 0; buffer = buffer; second = second }

-- "then the first refused edit's number [..]; then the last document's own fault and place": "only the last document is judged, whole"
abbrev pub verdict : Rules → Work → Answer
verdict R w = cond (eqb w.number 0) (judge R whole (toks w.doc)) (w.number, 0)

-- "The second buffer ends with the last document reached, 0 up to the longest reached (the starting one included), then its old contents"
abbrev pub reached_in : (second : List ℕ) → Work → List ℕ
reached_in second w = written second w.longest w.doc

-- "Then it is copied back, with 0 up to the old length"
abbrev pub copied : (buffer : List ℕ) → (used : ℕ) → (second : List ℕ) → Work → GroupOutcome
copied buffer used second w = record {
  number = 0;
  place = 0;
  used = length w.doc;
  change = pos (length w.doc) -ℤ pos used;
  which = 0;
  buffer = written buffer used w.doc;
  second = reached_in second w;
}

-- "or nothing in the first buffer changes"; "which edit it was, from 1 (else 0)"
abbrev pub stopped : (buffer : List ℕ) → (used : ℕ) → (second : List ℕ) → Work → Answer → GroupOutcome
stopped buffer used second w a = record {
  number = a.0;
  place = a.1;
  used = used;
  change = pos 0;
  which = w.which;
  buffer = buffer;
  second = reached_in second w;
}

abbrev pub begun : (buffer : List ℕ) → (used : ℕ) → (second : List ℕ) → Work → Answer → GroupOutcome
begun buffer used second w a = cond (eqb a.0 0) (copied buffer used second w) (stopped buffer used second w a)

-- "then the list faults of item 6, then a second buffer shorter than the first (5)"; the first edit is number 1, and the starting document
-- the first that is reached
abbrev pub group_by : Rules → (buffer : List ℕ) → (used : ℕ) → (second : List ℕ) → Split → GroupOutcome
group_by R buffer used second (fault n) = not_begun buffer used second n
group_by R buffer used second (edits l) =
    let w : Work = worked (length buffer) 1 used (take used buffer) l in
    cond (leb (length buffer) (length second)) (begun buffer used second w (verdict R w)) (not_begun buffer used second 5)

-- "A group of 1 to 256 edits is worked on a second lent buffer." "Refusals: 13 and shape 4, then [the rest]"
unfoldable pub group : (table buffer : List ℕ) → (used : ℕ) → (list second : List ℕ) → GroupOutcome
group table buffer used list second =
    cond (proper table)
    (cond (shape_of buffer used) (group_by (of_table table) buffer used second (split_list list)) (not_begun buffer used second 4))
    (not_begun buffer used second 13)

-- ---- the same by meaning

-- the document after edits, whatever they are
abbrev pub after : List Request → List ℕ → List ℕ
after [] doc = doc
after (q ∷ l) doc = after l (edited q doc)

-- each edit is in good form, at an allowed place and within the limits, on what those before it made
abbrev pub AllInForm : (room : ℕ) → List Request → List ℕ → Type 0
AllInForm room [] doc = Unit {0}
AllInForm room (q ∷ l) doc = (form_fault room q doc ≡ 0) × AllInForm room l (edited q doc)
