-- One edit, told: what it keeps and what it leaves, when it is in form, and when it is made rightly. Assumes nothing.
use Rattle.std.specs.Prelude.{◌≡◌, ◌↔◌, ◌≢◌, List, [], ◌∷◌, ℕ, ℤ, pos, ◌-ℤ◌, length, take}
use Rattle.paper.specs.Schema.{Schema}
use Rattle.paper.specs.Rules.{of_schema}
use Rattle.paper.specs.Judgement.{checking}
use Rattle.paper.specs.Validity.{ValidDocument}
use Rattle.paper.specs.Requests.{Request, edited}
use Rattle.paper.specs.Back.{inverse, noted}
use Rattle.paper.specs.Counts.{TrueCounts, moved}
use Rattle.paper.specs.Edits.{Outcome, looked_at, size_fault, written}

-- "an edit's gives the old length and change 0"; item 10: "Refused edits report 0." Both buffers and the counts are as
-- they were.
abbrev pub Kept : (buffer : List ℕ) → (used : ℕ) → (second : List ℕ) → (counts : List ℤ) → Outcome → Type 0
Kept buffer used second counts o =
    (o.used ≡ used) × (o.change ≡ pos 0) × (o.children ≡ 0) × (o.buffer ≡ buffer) × (o.back ≡ second) × (o.counts ≡ counts)

-- "A done edit leaves exactly the tree of the edit rules": the tokens of the edited document, their number, the change, and 0 up to
-- the old length; item 10: it "reports the number of children looked at"; item 2: it "also writes, into a second lent buffer, the edit that
-- takes it back", and the places after it stay; item 7: counts are "carried along by edits"
abbrev pub Left : (E : ℕ) → (buffer : List ℕ) → (used : ℕ) → Request → (second : List ℕ) → (counts : List ℤ) → Outcome → Type 0
Left E buffer used q second counts o =
    let doc : List ℕ = take used buffer in
    let new : List ℕ = edited q doc in
    (o.place ≡ 0) × (o.used ≡ length new) × (o.change ≡ pos (length new) -ℤ pos used) × (o.buffer ≡ written buffer used new)
    × (o.children ≡ looked_at q doc) × (o.back ≡ noted second (inverse q doc)) × (o.counts ≡ moved E q doc counts)

-- "each edit in good form, at an allowed place and within the limits"; item 2: the second buffer's room "is a size limit"
abbrev pub InForm : (buffer : List ℕ) → (used : ℕ) → Request → (second : List ℕ) → Type 0
InForm buffer used q second = size_fault (length buffer) (length second) q (take used buffer) ≡ 0

-- Item 7: the counts beside a document are true
abbrev pub TrueBeside : Schema → (buffer : List ℕ) → (used : ℕ) → List ℤ → Type 0
TrueBeside s buffer used counts = TrueCounts (of_schema s).elements (take used buffer) counts

-- One edit, made rightly. The edited document is judged whole, from the expressions.
pub record Right (s : Schema) (buffer : List ℕ) (used : ℕ) (q : Request) (second : List ℕ) (counts : List ℤ) (o : Outcome) : Type 0 where
  -- "is done exactly if the edited document, judged whole from the expressions without a table, is valid"
  pub done_exactly : InForm buffer used q second → (o.number ≡ 0) ↔ ValidDocument s (edited q (take used buffer)) (length (edited q (take used buffer)))
  -- "else number and place are those of that judgement"
  pub number_place : InForm buffer used q second → o.number ≢ 0
      → (o.number, o.place) ≡ checking (of_schema s) (edited q (take used buffer)) (length (edited q (take used buffer)))
  -- an edit not in form, not at an allowed place or not within the limits gets the number of that
  pub not_in_form : ¬ InForm buffer used q second → (o.number ≡ size_fault (length buffer) (length second) q (take used buffer)) × (o.place ≡ 0)
  -- "and the document stays"
  pub kept : o.number ≢ 0 → Kept buffer used second counts o
  -- what a done edit leaves
  pub left : o.number ≡ 0 → Left (of_schema s).elements buffer used q second counts o
  -- and the document is valid again, for the next edit
  pub valid_after : ValidDocument s o.buffer o.used
  -- "If the counts were true before, they are true after every edit, done or refused"
  pub true_after : TrueBeside s o.buffer o.used o.counts

-- one edit of a run: what is asked, the second buffer that is lent, and what came of it
pub record Step : Type 0 where
  pub asked : Request
  pub lent : List ℕ
  pub came : Outcome

abbrev pub EachRight : Schema → (buffer : List ℕ) → (used : ℕ) → (counts : List ℤ) → List Step → Type 0
EachRight s buffer used counts [] = Unit {0}
EachRight s buffer used counts (x ∷ l) =
    Right s buffer used x.asked x.lent counts x.came × EachRight s x.came.buffer x.came.used x.came.counts l
