-- Item 7, "How many panels?": what is promised, stated of any calls. That a done edit moves the counts stands in `Left`, that a refused one
-- leaves them in `Kept`, that true counts are true after every edit in `Right` and after every list in `ListRight`, and that they are given
-- back by the way back in `UndoDone` (Right, Lists, Undo). Assumes nothing.
use Rattle.std.specs.Prelude.{◌≡◌, ◌↔◌, ◌≢◌, true, false, List, ℕ, ◌≤◌, ◌<◌, ℤ, pos, length, take, get_or}
use Rattle.paper.specs.Basics.{most_elements, all}
use Rattle.paper.specs.Table.{proper}
use Rattle.paper.specs.Tokens.{toks}
use Rattle.paper.specs.Shape.{shape_of}
use Rattle.paper.specs.Trees.{IsTree, tree_of}
use Rattle.paper.specs.Rules.{of_table}
use Rattle.paper.specs.Judgement.{Answer}
use Rattle.paper.specs.Requests.{Request}
use Rattle.paper.specs.Counts.{elements_in, TrueCounts, moved, count_good}
use Rattle.paper.specs.Edits.{Outcome, size_fault}
use Rattle.paper.specs.Lists.{Listed}
use Rattle.paper.specs.Answers.{Answers, elements_answers}
use Rattle.promises.specs.Calls.{Calls}
use Rattle.promises.specs.Statements.{Determinate}

-- "equal a fresh count": true counts are 48, each the number of elements of that name in the document's tree for a name below E, and 0 from
-- E on
abbrev pub TrueOnTree : Type 0
TrueOnTree = (E : ℕ) (doc : List ℕ) (t : IsTree (toks doc)) (counts : List ℤ) → TrueCounts E doc counts
    → (length counts ≡ most_elements)
    × ((e : ℕ) → e < E → e < most_elements → get_or counts e (pos 0) ≡ pos (elements_in e (tree_of t)))
    × ((e : ℕ) → E ≤ e → get_or counts e (pos 0) ≡ pos 0)

module _ (calls : Calls) where
  open calls use {Checks, Performs, PerformsList, Tells}

  -- "If the counts were true before, they are true after every edit, done or refused": whatever the document
  abbrev pub EditTrue : Type 0
  EditTrue = (table buffer : List ℕ) (used : ℕ) (q : Request) (second : List ℕ) (counts : List ℤ) (o : Outcome) → Performs table buffer used q second counts o
      → TrueCounts (of_table table).elements (take used buffer) counts → TrueCounts (of_table table).elements (take o.used o.buffer) o.counts

  -- "lists included"
  abbrev pub ListTrue : Type 0
  ListTrue = (table buffer : List ℕ) (used : ℕ) (list : List ℕ) (counts : List ℤ) (o : Listed Outcome) → PerformsList table buffer used list counts o
      → TrueCounts (of_table table).elements (take used buffer) counts
      → TrueCounts (of_table table).elements (take o.last.used o.last.buffer) o.last.counts

  -- "Refusals: new 15, any of the 48 counts below 0 or above 8,192 after the edit, directly after 5": exactly then, where the table is proper,
  -- the document has shape and no number before it is met
  abbrev pub EditFifteen : Type 0
  EditFifteen = (table buffer : List ℕ) (used : ℕ) (q : Request) (second : List ℕ) (counts : List ℤ) (o : Outcome) → Performs table buffer used q second counts o
      → proper table ≡ true → shape_of buffer used ≡ true → size_fault (length buffer) (length second) q (take used buffer) ≡ 0
      → (o.number ≡ 15) ↔ (all count_good (moved (of_table table).elements q (take used buffer) counts) ≡ false)

  -- "true counts never meet it"
  abbrev pub EditNever15 : Type 0
  EditNever15 = (table buffer : List ℕ) (used : ℕ) (q : Request) (second : List ℕ) (counts : List ℤ) (o : Outcome) → Performs table buffer used q second counts o
      → TrueCounts (of_table table).elements (take used buffer) counts → o.number ≢ 15

  -- "written by a check that says valid"; one that says otherwise leaves them
  abbrev pub CheckWrites : Type 0
  CheckWrites = (table buffer : List ℕ) (used : ℕ) (counts : List ℤ) (o : Answer × List ℤ) → Checks table buffer used counts o
      → (o.0.0 ≡ 0 → TrueCounts (of_table table).elements (take used buffer) o.1) × (o.0.0 ≢ 0 → o.1 ≡ counts)

  -- the question
  abbrev pub TellDeterminate : Type 0
  TellDeterminate = Determinate {I = List ℕ × List ℤ × ℕ} (λ i. Tells i.0 i.1 i.2)

  abbrev pub TellAnswers : Type 0
  TellAnswers = (table : List ℕ) (counts : List ℤ) (name : ℕ) (o : ℕ × ℕ) → Tells table counts name o → Answers elements_answers o.0 0

  -- "and answer from them": with true counts, the number of elements of that name in the document's tree; "Names of E and above [..] answer 0"
  abbrev pub TellsTree : Type 0
  TellsTree = (table buffer : List ℕ) (used : ℕ) (counts : List ℤ) (name : ℕ) (o : ℕ × ℕ) → Tells table counts name o
      → proper table ≡ true → shape_of buffer used ≡ true → TrueCounts (of_table table).elements (take used buffer) counts
      → (o.0 ≡ 0) × (name < (of_table table).elements → (t : IsTree (toks (take used buffer))) → o.1 ≡ elements_in name (tree_of t))
      × ((of_table table).elements ≤ name → o.1 ≡ 0)
