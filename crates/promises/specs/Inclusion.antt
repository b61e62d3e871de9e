-- Item 12, stated: what is promised of the comparison of an element's content in two tables. Assumes nothing.
use Rattle.std.specs.Prelude.{◌≡◌, ◌↔◌, ◌≢◌, true, List, ◌++◌, ℕ, ◌<◌, T, length, drop, get_or}
use Rattle.paper.specs.Basics.{sequence_places}
use Rattle.paper.specs.Schema.{Schema}
use Rattle.paper.specs.Table.{proper}
use Rattle.paper.specs.Rules.{element_at, of_schema, of_table}
use Rattle.paper.specs.Inclusion.{Takes, ShortestOf, takes, Compared, comparable, comparing}
use Rattle.paper.specs.Answers.{Answers, compare_answers}
use Rattle.promises.specs.Calls.{Calls}
use Rattle.promises.specs.Statements.{Determinate, Translated}

-- ---- "Refusals in order: 13, old table first; element not below both E is 6; new 16, a kind other than 0 or 2 in either; buffer
-- too short is 5."

abbrev pub BothProper : (old new : List ℕ) → Type 0
BothProper old new = (proper old ≡ true) × (proper new ≡ true)

abbrev pub BothBelow : (old new : List ℕ) → ℕ → Type 0
BothBelow old new e = (e < get_or old 0 0) × (e < get_or new 0 0)

abbrev pub BothCompared : (old new : List ℕ) → ℕ → Type 0
BothCompared old new e = (comparable (of_table old) e ≡ true) × (comparable (of_table new) e ≡ true)

-- each is given exactly when its cause is the first in the order
pub record InOrder (old new : List ℕ) (e : ℕ) (buffer : List ℕ) (number : ℕ) : Type 0 where
  pub table : (number ≡ 13) ↔ ¬ BothProper old new
  pub element : BothProper old new → (number ≡ 6) ↔ ¬ BothBelow old new e
  pub kind : BothProper old new → BothBelow old new e → (number ≡ 16) ↔ ¬ BothCompared old new e
  pub room : BothProper old new → BothBelow old new e → BothCompared old new e → (number ≡ 5) ↔ (length buffer < sequence_places)

-- ---- the answer, of an old content that takes the sequences of Old and a new one that takes those of New

-- w is "the shortest lost sequence, of equals the lowest by element numbers from the left"; it was written, and "those [places] after
-- the sequence keep their contents". It has fewer than 4,290 names, so that the buffer is always enough.
pub record Wrote (Old New : List ℕ → Type 0) (buffer : List ℕ) (o : Compared) : Type 0 where
  pub w : List ℕ
  pub shortest_lost_lem : ShortestOf (λ v. Old v × ¬ New v) w
  pub length_told : o.len ≡ length w
  pub short : length w < sequence_places
  pub written : o.buffer ≡ w ++ drop (length w) buffer

pub record Told (Old New : List ℕ → Type 0) (buffer : List ℕ) (o : Compared) : Type 0 where
  -- "The answer is yes exactly if the new one takes every child sequence the old one takes."
  pub yes_exactly : (o.takes_all ≡ 1) ↔ ((w : List ℕ) → Old w → New w)
  pub nothing_written : o.takes_all ≡ 1 → (o.len ≡ 0) × (o.buffer ≡ buffer)
  -- "Otherwise it writes [it]"
  pub otherwise : o.takes_all ≢ 1 → (o.takes_all ≡ 0) × Wrote Old New buffer o

-- ---- the call

module _ (calls : Calls) where
  open calls use {Compares}

  abbrev pub CompareDeterminate : Type 0
  CompareDeterminate = Determinate {I = List ℕ × List ℕ × ℕ × List ℕ} (λ i. Compares i.0 i.1 i.2 i.3)

  abbrev pub CompareAnswers : Type 0
  CompareAnswers = (old new : List ℕ) (e : ℕ) (buffer : List ℕ) (o : Compared) → Compares old new e buffer o → Answers compare_answers o.number 0

  -- "A refused call leaves all lent memory as it was."
  abbrev pub CompareKeeps : Type 0
  CompareKeeps = (old new : List ℕ) (e : ℕ) (buffer : List ℕ) (o : Compared) → Compares old new e buffer o → o.number ≢ 0
      → (o.takes_all ≡ 0) × (o.len ≡ 0) × (o.buffer ≡ buffer)

  abbrev pub CompareOrder : Type 0
  CompareOrder = (old new : List ℕ) (e : ℕ) (buffer : List ℕ) (o : Compared) → Compares old new e buffer o → InOrder old new e buffer o.number

  -- by the runs of any two proper tables
  abbrev pub CompareTells : Type 0
  CompareTells = (old new : List ℕ) (e : ℕ) (buffer : List ℕ) (o : Compared) → Compares old new e buffer o → o.number ≡ 0
      → Told (λ w. T (takes (of_table old) e w)) (λ w. T (takes (of_table new) e w)) buffer o

  -- Of two translated schemas: the whole outcome is that of their expressions ..
  abbrev pub CompareByExpressions : Type 0
  CompareByExpressions = (s t : Schema) (old new : List ℕ) → Translated calls s old → Translated calls t new
      → (e : ℕ) (buffer : List ℕ) (o : Compared) → Compares old new e buffer o → o ≡ comparing (of_schema s) (of_schema t) e buffer

  -- .. and the sequences are those that the expressions describe
  abbrev pub CompareMeans : Type 0
  CompareMeans = (s t : Schema) (old new : List ℕ) → Translated calls s old → Translated calls t new
      → (e : ℕ) (buffer : List ℕ) (o : Compared) → Compares old new e buffer o → o.number ≡ 0
      → Told (Takes (element_at s e).content) (Takes (element_at t e).content) buffer o
