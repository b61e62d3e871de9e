-- Item 2, "Step back": what is promised, stated of any calls. That a done edit writes its inverse into the second buffer, and no place
-- after it, stands in `Left`; that a refused one leaves both buffers in `Kept`; that the second buffer's room is a size limit in `InForm`
-- (Right). Assumes nothing.
use Rattle.std.specs.Prelude.{◌≡◌, ◌↔◌, ◌≢◌, true, List, [], ◌∷◌, ◌++◌, map, ℕ, ◌-◌, ◌≤◌, ◌<◌, max, ℤ, length, take, drop, replicate}
use Rattle.paper.specs.Basics.{most_back}
use Rattle.paper.specs.Schema.{Schema}
use Rattle.paper.specs.Table.{proper}
use Rattle.paper.specs.Shape.{shape_of}
use Rattle.paper.specs.Validity.{ValidDocument}
use Rattle.paper.specs.Requests.{Request}
use Rattle.paper.specs.Back.{inverse, needs, edit_in}
use Rattle.paper.specs.Edits.{Outcome, form_fault}
use Rattle.promises.specs.Calls.{Calls}
use Rattle.promises.specs.Right.{TrueBeside, Step}
use Rattle.promises.specs.Statements.{Translated, Runs}

-- ---- runs

-- what a run leaves: buffer, used length and counts
abbrev pub leaves : (buffer : List ℕ) → (used : ℕ) → (counts : List ℤ) → List Step → List ℕ × ℕ × List ℤ
leaves buffer used counts [] = (buffer, used, counts)
leaves buffer used counts (x ∷ l) = leaves x.came.buffer x.came.used x.came.counts l

abbrev pub AllDone : List Step → Type 0
AllDone [] = Unit {0}
AllDone (x ∷ l) = (x.came.number ≡ 0) × AllDone l

-- a run that is done to the end, and leaves the used tokens of a buffer and the counts beside it
abbrev pub EndsAt : (there : List ℕ) → (now : ℕ) → (those : List ℤ) → List Step → (buffer : List ℕ) → (used : ℕ) → (counts : List ℤ) → Type 0
EndsAt there now those m buffer used counts =
    let end : List ℕ × ℕ × List ℤ = leaves there now those m in
    AllDone m × (end.1 ≡ used) × (take end.1 end.0 ≡ take used buffer) × (end.2 ≡ counts)

-- "with room in the second buffer for its own inverse": each edit of a run
abbrev pub Roomy : (buffer : List ℕ) → (used : ℕ) → List Step → Type 0
Roomy buffer used [] = Unit {0}
Roomy buffer used (x ∷ l) = (needs x.asked (take used buffer) ≤ length x.lent) × Roomy x.came.buffer x.came.used l

abbrev pub asked_in : List Step → List Request
asked_in = map (λ (x : Step). x.asked)

-- the inverses of a run, as they stand in the second buffers, the last edit's first
abbrev pub inverses_in : List Step → List Request
inverses_in [] = []
inverses_in (x ∷ l) = inverses_in l ++ (edit_in x.came.back ∷ [])

-- ---- what an inverse needs

-- of a document with shape, an edit in form: 8,195 places are always enough
abbrev pub NeedsMost : Type 0
NeedsMost = (buffer : List ℕ) (used room : ℕ) (q : Request) → shape_of buffer used ≡ true → form_fault room q (take used buffer) ≡ 0
    → needs q (take used buffer) ≤ most_back

module _ (calls : Calls) where
  open calls use {Performs}

  -- "Refusals: second buffer shorter than the inverse needs is 5, after document 01's own 5 and before judgement"
  abbrev pub EditSecond : Type 0
  EditSecond = (table buffer : List ℕ) (used : ℕ) (q : Request) (second : List ℕ) (counts : List ℤ) (o : Outcome) → Performs table buffer used q second counts o
      → proper table ≡ true → shape_of buffer used ≡ true
      → (form_fault (length buffer) q (take used buffer) ≢ 0 → o.number ≡ form_fault (length buffer) q (take used buffer))
      × (form_fault (length buffer) q (take used buffer) ≡ 0 → (o.number ≡ 5) ↔ (length second < needs q (take used buffer)))

  -- what a done edit wrote reads as its inverse, and the second buffer is as long as it was
  abbrev pub BackReads : Type 0
  BackReads = (table buffer : List ℕ) (used : ℕ) (q : Request) (second : List ℕ) (counts : List ℤ) (o : Outcome) → Performs table buffer used q second counts o → o.number ≡ 0
      → (edit_in o.back ≡ inverse q (take used buffer)) × (length o.back ≡ length second)

  -- "Starting from a valid document, and with room in the second buffer for its own inverse, that edit is always done in the same document
  -- buffer and gives back every used token and the old length." Every place of the buffer then: the old document, 0 where a longer one was,
  -- and behind both what stood there. Item 7: "item 2's way back read[s] true counts as a premise"; every count is given back.
  abbrev pub UndoDone : Type 0
  UndoDone = (s : Schema) (table : List ℕ) → Translated calls s table
      → (buffer : List ℕ) (used : ℕ) → ValidDocument s buffer used
      → (q : Request) (second : List ℕ) (counts : List ℤ) → TrueBeside s buffer used counts → (o : Outcome) → Performs table buffer used q second counts o → o.number ≡ 0
      → (lent : List ℕ) (u : Outcome) → Performs table o.buffer o.used (edit_in o.back) lent o.counts u
      → needs (edit_in o.back) (take o.used o.buffer) ≤ length lent
      → (u.number ≡ 0) × (u.used ≡ used) × (take u.used u.buffer ≡ take used buffer)
      × (u.buffer ≡ take used buffer ++ (replicate (o.used - used) 0 ++ drop (max used o.used) buffer)) × (u.counts ≡ counts)

  -- the inverse of the inverse does what the first edit did
  abbrev pub RedoDone : Type 0
  RedoDone = (s : Schema) (table : List ℕ) → Translated calls s table
      → (buffer : List ℕ) (used : ℕ) → ValidDocument s buffer used
      → (q : Request) (second : List ℕ) (counts : List ℤ) → TrueBeside s buffer used counts → (o : Outcome) → Performs table buffer used q second counts o → o.number ≡ 0
      → (lent : List ℕ) (u : Outcome) → Performs table o.buffer o.used (edit_in o.back) lent o.counts u
      → needs (edit_in o.back) (take o.used o.buffer) ≤ length lent
      → (third : List ℕ) (again : Outcome) → Performs table u.buffer u.used (edit_in u.back) third u.counts again
      → needs (edit_in u.back) (take u.used u.buffer) ≤ length third
      → (again.number ≡ 0) × (again.used ≡ o.used) × (take again.used again.buffer ≡ take o.used o.buffer) × (again.counts ≡ o.counts)

  -- a whole run back: any run of done edits, with its inverses made in reverse order, is done to the end and ends at the first document
  abbrev pub RunBack : Type 0
  RunBack = (s : Schema) (table : List ℕ) → Translated calls s table
      → (buffer : List ℕ) (used : ℕ) → ValidDocument s buffer used
      → (counts : List ℤ) → TrueBeside s buffer used counts
      → (l : List Step) → Runs calls table buffer used counts l → AllDone l
      → let (there, now, those) = leaves buffer used counts l in
      (m : List Step) → asked_in m ≡ inverses_in l → Runs calls table there now those m → Roomy there now m
      → EndsAt there now those m buffer used counts
