-- Item 9, "Rename a panel": what is promised, stated of any calls. Assumes nothing.
use Rattle.std.specs.Prelude.{◌≡◌, ◌↔◌, ◌≢◌, true, false, List, [], ◌∷◌, ◌++◌, ℕ, suc, ◌-◌, ◌≤◌, ◌<◌, ℤ, pos, ◌-ℤ◌, length, take, drop, replicate}
use Rattle.paper.specs.Schema.{Schema}
use Rattle.paper.specs.Table.{proper}
use Rattle.paper.specs.Shape.{shape_of}
use Rattle.paper.specs.Rules.{of_schema}
use Rattle.paper.specs.Judgement.{Answer, checking}
use Rattle.paper.specs.Validity.{ValidDocument}
use Rattle.paper.specs.Requests.{Request}
use Rattle.paper.specs.Back.{needs}
use Rattle.paper.specs.Edits.{Outcome, form_fault, written}
use Rattle.paper.specs.Lists.{fault, edits, split_list}
use Rattle.paper.specs.Answers.{Answers, group_answers}
use Rattle.paper.specs.Groups.{GroupOutcome, not_begun, after, AllInForm}
use Rattle.promises.specs.Calls.{Calls}
use Rattle.promises.specs.Right.{TrueBeside, Step, EachRight}
use Rattle.promises.specs.Statements.{Determinate, Translated, Runs}

-- ---- before any edit

-- a proper table and a document with shape
abbrev pub Ready : (table buffer : List ℕ) → (used : ℕ) → Type 0
Ready table buffer used = (proper table ≡ true) × (shape_of buffer used ≡ true)

-- "Refusals: 13 and shape 4, then the list faults of item 6, then a second buffer shorter than the first (5), all before any edit": the
-- first of these that is met gives the number, and everything lent is as it was
pub record InOrder (table buffer : List ℕ) (used : ℕ) (list second : List ℕ) (o : GroupOutcome) : Type 0 where
  pub table_first : proper table ≡ false → o ≡ not_begun buffer used second 13
  pub shape : proper table ≡ true → shape_of buffer used ≡ false → o ≡ not_begun buffer used second 4
  pub list_fault : Ready table buffer used → (n : ℕ) → split_list list ≡ fault n → o ≡ not_begun buffer used second n
  pub room : Ready table buffer used → (es : List Request) → split_list list ≡ edits es → length second < length buffer → o ≡ not_begun buffer used second 5

-- else the first edit has begun
pub record Begins (table buffer : List ℕ) (used : ℕ) (list second : List ℕ) (es : List Request) : Type 0 where
  pub ready : Ready table buffer used
  pub splits : split_list list ≡ edits es
  pub room : length buffer ≤ length second

-- ---- the buffers

-- "or nothing in the first buffer changes": with the old length, and change 0
abbrev pub FirstKept : (buffer : List ℕ) → (used : ℕ) → GroupOutcome → Type 0
FirstKept buffer used o = (o.used ≡ used) × (o.change ≡ pos 0) × (o.buffer ≡ buffer)

-- the next edit is refused, or there is none
abbrev pub Stops : (room : ℕ) → List Request → List ℕ → Type 0
Stops room [] doc = Unit {0}
Stops room (q ∷ l) doc = form_fault room q doc ≢ 0

-- "The second buffer ends with the last document reached, 0 up to the longest reached (the starting one included), then its old contents"
pub record SecondHolds (room : ℕ) (doc : List ℕ) (es : List Request) (second now : List ℕ) : Type 0 where
  -- the edits that were made, and those that were not
  pub made : List Request
  pub left : List Request
  pub splits : es ≡ made ++ left
  pub in_form : AllInForm room made doc
  pub stops : Stops room left (after made doc)
  -- of the documents that edits in form reach none is longer, and one is as long
  pub longest : ℕ
  pub none_longer : (a b : List Request) → es ≡ a ++ b → AllInForm room a doc → length (after a doc) ≤ longest
  pub one_as_long : (a : List Request) × (b : List Request) × (es ≡ a ++ b) × AllInForm room a doc × (length (after a doc) ≡ longest)
  -- every place
  pub holds : now ≡ after made doc ++ (replicate (longest - length (after made doc)) 0 ++ drop longest second)

-- ---- demand 3

-- the group's edits are in form up to one that is not: "the first refused edit's number and which edit it was, from 1"
pub record FirstRefused (room : ℕ) (doc : List ℕ) (es : List Request) (o : GroupOutcome) : Type 0 where
  pub ahead : List Request
  pub edit : Request
  pub behind : List Request
  pub splits : es ≡ ahead ++ edit ∷ behind
  pub in_form : AllInForm room ahead doc
  pub not_in_form : form_fault room edit (after ahead doc) ≢ 0
  pub number : o.number ≡ form_fault room edit (after ahead doc)
  pub place : o.place ≡ 0
  pub which : o.which ≡ suc (length ahead)

-- "Demand 3 reads a group as one edit from a valid document"
pub record GroupRight (s : Schema) (buffer : List ℕ) (used : ℕ) (es : List Request) (o : GroupOutcome) : Type 0 where
  -- "done exactly if the end is valid" by the schema's own expressions, where each edit is in form
  pub done_exactly : (o.number ≡ 0)
      ↔ (AllInForm (length buffer) es (take used buffer) × ValidDocument s (after es (take used buffer)) (length (after es (take used buffer))))
  -- "then the last document's own fault and place"
  pub number_place : AllInForm (length buffer) es (take used buffer) → o.number ≢ 0
      → ((o.number, o.place) ≡ checking (of_schema s) (after es (take used buffer)) (length (after es (take used buffer)))) × (o.which ≡ 0)
  pub not_in_form : ¬ AllInForm (length buffer) es (take used buffer) → FirstRefused (length buffer) (take used buffer) es o
  -- "and the document stays"
  pub kept : o.number ≢ 0 → FirstKept buffer used o
  -- "Then it is copied back, with 0 up to the old length"
  pub left : o.number ≡ 0
      → let new : List ℕ = after es (take used buffer) in
      (o.place ≡ 0) × (o.which ≡ 0) × (o.used ≡ length new) × (o.change ≡ pos (length new) -ℤ pos used) × (o.buffer ≡ written buffer used new)
  -- the document is valid again
  pub valid_after : ValidDocument s o.buffer o.used

-- a group's answer and first buffer are an edit's
pub record SameAs (o : GroupOutcome) (u : Outcome) : Type 0 where
  pub number : o.number ≡ u.number
  pub place : o.place ≡ u.place
  pub used : o.used ≡ u.used
  pub change : o.change ≡ u.change
  pub buffer : o.buffer ≡ u.buffer

-- ---- of the calls

module _ (calls : Calls) where
  open calls use {Checks, Performs, PerformsGroup}

  abbrev pub GroupDeterminate : Type 0
  GroupDeterminate = Determinate {I = List ℕ × List ℕ × ℕ × List ℕ × List ℕ} (λ i. PerformsGroup i.0 i.1 i.2 i.3 i.4)

  -- a number of the paper, and never 7
  abbrev pub GroupAnswers : Type 0
  GroupAnswers = (table buffer : List ℕ) (used : ℕ) (list second : List ℕ) (o : GroupOutcome) → PerformsGroup table buffer used list second o
      → Answers group_answers o.number o.place

  abbrev pub GroupOrder : Type 0
  GroupOrder = (table buffer : List ℕ) (used : ℕ) (list second : List ℕ) (o : GroupOutcome) → PerformsGroup table buffer used list second o
      → InOrder table buffer used list second o

  -- "demand 1 excepts it [the second buffer] once an edit has begun": the first buffer is as it was after every refusal
  abbrev pub GroupKeeps : Type 0
  GroupKeeps = (table buffer : List ℕ) (used : ℕ) (list second : List ℕ) (o : GroupOutcome) → PerformsGroup table buffer used list second o
      → o.number ≢ 0 → FirstKept buffer used o

  abbrev pub GroupSecond : Type 0
  GroupSecond = (table buffer : List ℕ) (used : ℕ) (list second : List ℕ) (o : GroupOutcome) → PerformsGroup table buffer used list second o
      → (es : List Request) → Begins table buffer used list second es → SecondHolds (length buffer) (take used buffer) es second o.second

  -- both buffers are as long as they were
  abbrev pub GroupLengths : Type 0
  GroupLengths = (table buffer : List ℕ) (used : ℕ) (list second : List ℕ) (o : GroupOutcome) → PerformsGroup table buffer used list second o
      → (length o.buffer ≡ length buffer) × (length o.second ≡ length second)

  abbrev pub GroupDemand3 : Type 0
  GroupDemand3 = (s : Schema) (table : List ℕ) → Translated calls s table
      → (buffer : List ℕ) (used : ℕ) → ValidDocument s buffer used
      → (list second : List ℕ) (es : List Request) → split_list list ≡ edits es → length buffer ≤ length second
      → (o : GroupOutcome) → PerformsGroup table buffer used list second o → GroupRight s buffer used es o

  -- "after a done one, demand 3's premise asks that a check writes the counts before the next edit or list": that check says valid and writes
  -- true counts, and any run of edits from there is right
  abbrev pub GroupThenRun : Type 0
  GroupThenRun = (s : Schema) (table : List ℕ) → Translated calls s table
      → (buffer : List ℕ) (used : ℕ) → ValidDocument s buffer used
      → (list second : List ℕ) (es : List Request) → split_list list ≡ edits es → length buffer ≤ length second
      → (o : GroupOutcome) → PerformsGroup table buffer used list second o
      → (counts : List ℤ) (c : Answer × List ℤ) → Checks table o.buffer o.used counts c
      → (c.0.0 ≡ 0) × TrueBeside s o.buffer o.used c.1
      × ((l : List Step) → Runs calls table o.buffer o.used c.1 l → EachRight s o.buffer o.used c.1 l)

  -- a group of one edit is that edit, with room for its inverse and true counts
  abbrev pub GroupOfOne : Type 0
  GroupOfOne = (s : Schema) (table : List ℕ) → Translated calls s table
      → (buffer : List ℕ) (used : ℕ) → ValidDocument s buffer used
      → (list second : List ℕ) (q : Request) → split_list list ≡ edits (q ∷ []) → length buffer ≤ length second
      → (o : GroupOutcome) → PerformsGroup table buffer used list second o
      → (lent : List ℕ) (counts : List ℤ) → TrueBeside s buffer used counts → (u : Outcome) → Performs table buffer used q lent counts u → needs q (take used buffer) ≤ length lent
      → SameAs o u
