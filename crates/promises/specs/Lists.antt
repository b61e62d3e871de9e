-- Item 6, "One call for a script step": what is promised, stated of any calls. Assumes nothing.
use Rattle.std.specs.Prelude.{◌≡◌, ◌≢◌, ◌⊎◌, cond, List, [], ◌∷◌, ℕ, suc, ◌≤◌, ◌<◌, eqb, ℤ, length, take}
use Rattle.paper.specs.Basics.{most_edits}
use Rattle.paper.specs.Schema.{Schema}
use Rattle.paper.specs.Validity.{ValidDocument}
use Rattle.paper.specs.Edits.{Request, Outcome}
use Rattle.paper.specs.Lists.{list_numbers, EndsInside, OneMoreBegun, Listed, lent_with, alone}
use Rattle.paper.specs.Answers.{Answers, list_answers}
use Rattle.promises.specs.Calls.{Calls}
use Rattle.promises.specs.Right.{Kept, TrueBeside, Step, EachRight}
use Rattle.promises.specs.Statements.{Determinate, Translated, Runs}
use Rattle.promises.specs.Undo.{Roomy}

-- ---- which lists are taken

-- "a list of 1 to 256 edits, in the edit file's order of numbers": the list is the numbers of these edits
abbrev pub IsList : List Request → List ℕ → Type 0
IsList es list = (list ≡ list_numbers es) × (1 ≤ length es) × (length es ≤ most_edits)

-- "a list that is empty or ends inside an edit"
abbrev pub Broken : List ℕ → Type 0
Broken list = (list ≡ []) ⊎ EndsInside most_edits list

-- "a 257th edit begun"
abbrev pub TooMany : List ℕ → Type 0
TooMany = OneMoreBegun most_edits

-- every list is one of the three
abbrev pub ListForms : Type 0
ListForms = (list : List ℕ) → ((es : List Request) × IsList es list) ⊎ (Broken list ⊎ TooMany list)

-- ---- single calls

-- edits, made by single calls: "It ends at the first refusal"
abbrev pub Steps : List Request → List Step → Type 0
Steps [] l = l ≡ []
Steps (q ∷ es) [] = ⊥
Steps (q ∷ es) (x ∷ l) = (x.asked ≡ q) × (x.came.number ≡ 0 → Steps es l) × (x.came.number ≢ 0 → l ≡ [])

-- what the last call came to; o, if there is none
abbrev pub last_of : Outcome → List Step → Outcome
last_of o [] = o
last_of o (x ∷ l) = last_of x.came l

-- how many calls were done, without a refused one
abbrev pub done_in : List Step → ℕ
done_in [] = 0
done_in (x ∷ l) = cond (eqb x.came.number 0) (suc (done_in l)) (done_in l)

-- "Document, last answer and number of edits done are those of single calls. It writes no inverses." Item 7: so are the counts.
abbrev pub AsSingles : (buffer : List ℕ) → (used : ℕ) → (counts : List ℤ) → Listed Outcome → List Step → Type 0
AsSingles buffer used counts o l = (o.last ≡ alone (last_of (lent_with buffer used counts 0) l)) × (o.done ≡ done_in l)

module _ (calls : Calls) where
  open calls use {PerformsList}

  abbrev pub ListDeterminate : Type 0
  ListDeterminate = Determinate {I = List ℕ × List ℕ × ℕ × List ℕ × List ℤ} (λ i. PerformsList i.0 i.1 i.2 i.3 i.4)

  -- demand 1: the last answer is a number of the paper
  abbrev pub ListAnswers : Type 0
  ListAnswers = (table buffer : List ℕ) (used : ℕ) (list : List ℕ) (counts : List ℤ) (o : Listed Outcome) → PerformsList table buffer used list counts o
      → Answers list_answers o.last.number o.last.place

  -- "Refusals: a list that is empty or ends inside an edit is 4, a 257th edit begun is 5, the first met from the front, before any edit is
  -- run": all that was lent is as it was, and no edit is done
  abbrev pub ListFaults : Type 0
  ListFaults = (table buffer : List ℕ) (used : ℕ) (list : List ℕ) (counts : List ℤ) (o : Listed Outcome) → PerformsList table buffer used list counts o
      → (Broken list → o ≡ record { last = lent_with buffer used counts 4; done = 0 })
      × (TooMany list → o ≡ record { last = lent_with buffer used counts 5; done = 0 })

  -- A list comes to what its single calls come to: any that the contract of the edit allows, each with room for its inverse.
  abbrev pub ListIsSingles : Type 0
  ListIsSingles = (table buffer : List ℕ) (used : ℕ) (list : List ℕ) (counts : List ℤ) (o : Listed Outcome) → PerformsList table buffer used list counts o
      → (es : List Request) → IsList es list
      → (l : List Step) → Runs calls table buffer used counts l → Steps es l → Roomy buffer used l → AsSingles buffer used counts o l

  -- "what was done before stands"; "Demand 1's untouched memory holds for the refused edit alone": a list that ends in a refusal leaves what
  -- was lent, if no edit was done, and else what the list of those that were done leaves, which has no refusal.
  abbrev pub ListStands : Type 0
  ListStands = (table buffer : List ℕ) (used : ℕ) (list : List ℕ) (counts : List ℤ) (o : Listed Outcome) → PerformsList table buffer used list counts o
      → (es : List Request) → IsList es list → o.last.number ≢ 0
      → (o.done ≡ 0 → Kept buffer used [] counts o.last)
      × ((p : Listed Outcome) → PerformsList table buffer used (list_numbers (take o.done es)) counts p → 0 < o.done
      → (p.last.number ≡ 0) × (p.done ≡ o.done) × Kept p.last.buffer p.last.used [] p.last.counts o.last)

  -- Demand 3, for a list as for a run: from a valid document each edit of the list, up to the first refusal, is made rightly, as by a single
  -- call, and the list comes to what they come to. The document is valid again, and the counts are true: they are carried
  -- "along by edits, lists included".
  abbrev pub ListRight : Type 0
  ListRight = (s : Schema) (table : List ℕ) → Translated calls s table
      → (buffer : List ℕ) (used : ℕ) → ValidDocument s buffer used
      → (list : List ℕ) (counts : List ℤ) → TrueBeside s buffer used counts → (o : Listed Outcome) → PerformsList table buffer used list counts o
      → (es : List Request) → IsList es list
      → ((l : List Step) × Steps es l × EachRight s buffer used counts l × AsSingles buffer used counts o l) × ValidDocument s o.last.buffer o.last.used
      × TrueBeside s o.last.buffer o.last.used o.last.counts
