-- The calls, each by the outcomes that its contract allows. A promise is said of any such calls. Assumes nothing.
use Rattle.std.specs.Prelude.{List, ℕ, ℤ}
use Rattle.paper.specs.Files.{Counted}
use Rattle.paper.specs.Judgement.{Answer}
use Rattle.paper.specs.Edits.{Request, Outcome}
use Rattle.paper.specs.Lists.{Listed}
use Rattle.paper.specs.Inclusion.{Compared}
use Rattle.paper.specs.Dtd.Imported.{Spot}
use Rattle.paper.specs.Calls as paper
use Rattle.paper.specs.Groups.{GroupOutcome}

-- what each is given, and an outcome: the answer and every place of lent memory after the call
pub record Calls : Type 1 where
  pub Reads : (file buffer : List ℕ) → Counted → Type 0
  pub Writes : (tokens buffer : List ℕ) → Counted → Type 0
  pub Translates : (file table : List ℕ) → ℕ × List ℕ → Type 0
  pub Checks : (table buffer : List ℕ) → (used : ℕ) → (counts : List ℤ) → Answer × List ℤ → Type 0
  pub Performs : (table buffer : List ℕ) → (used : ℕ) → Request → (second : List ℕ) → (counts : List ℤ) → Outcome → Type 0
  pub Tells : (table : List ℕ) → (counts : List ℤ) → (name : ℕ) → ℕ × ℕ → Type 0
  pub PerformsList : (table buffer : List ℕ) → (used : ℕ) → (list : List ℕ) → (counts : List ℤ) → Listed Outcome → Type 0
  pub PerformsGroup : (table buffer : List ℕ) → (used : ℕ) → (list second : List ℕ) → GroupOutcome → Type 0
  pub Compares : (old new : List ℕ) → (element : ℕ) → (buffer : List ℕ) → Compared → Type 0
  pub Imports : (text buffer : List ℕ) → Counted → Type 0
  pub Names : (text buffer : List ℕ) → Counted → Type 0
  pub Spots : (text : List ℕ) → Spot → Type 0

-- the paper's
abbrev pub papers : Calls
papers = record {
  Reads = paper.Reads;
  Writes = paper.Writes;
  Translates = paper.Translates;
  Checks = paper.Checks;
  Performs = paper.Performs;
  Tells = paper.Tells;
  PerformsList = paper.PerformsList;
  PerformsGroup = paper.PerformsGroup;
  Compares = paper.Compares;
  Imports = paper.Imports;
  Names = paper.Names;
  Spots = paper.Spots;
}

-- calls that allow no outcome but the paper's: of these every promise is proved
pub record Faithful (calls : Calls) : Type 0 where
  pub reads : (file buffer : List ℕ) (o : Counted) → calls.Reads file buffer o → paper.Reads file buffer o
  pub writes : (tokens buffer : List ℕ) (o : Counted) → calls.Writes tokens buffer o → paper.Writes tokens buffer o
  pub translates : (file table : List ℕ) (o : ℕ × List ℕ) → calls.Translates file table o → paper.Translates file table o
  pub checks : (table buffer : List ℕ) (used : ℕ) (counts : List ℤ) (o : Answer × List ℤ) → calls.Checks table buffer used counts o → paper.Checks table buffer used counts o
  pub performs : (table buffer : List ℕ) (used : ℕ) (q : Request) (second : List ℕ) (counts : List ℤ) (o : Outcome)
      → calls.Performs table buffer used q second counts o → paper.Performs table buffer used q second counts o
  pub tells : (table : List ℕ) (counts : List ℤ) (name : ℕ) (o : ℕ × ℕ) → calls.Tells table counts name o → paper.Tells table counts name o
  pub performs_list : (table buffer : List ℕ) (used : ℕ) (list : List ℕ) (counts : List ℤ) (o : Listed Outcome)
      → calls.PerformsList table buffer used list counts o → paper.PerformsList table buffer used list counts o
  pub performs_group : (table buffer : List ℕ) (used : ℕ) (list second : List ℕ) (o : GroupOutcome) → calls.PerformsGroup table buffer used list second o → paper.PerformsGroup table buffer used list second o
  pub compares : (old new : List ℕ) (e : ℕ) (buffer : List ℕ) (o : Compared) → calls.Compares old new e buffer o → paper.Compares old new e buffer o
  pub imports : (text buffer : List ℕ) (o : Counted) → calls.Imports text buffer o → paper.Imports text buffer o
  pub names : (text buffer : List ℕ) (o : Counted) → calls.Names text buffer o → paper.Names text buffer o
  pub spots : (text : List ℕ) (o : Spot) → calls.Spots text o → paper.Spots text o

pub papers_faithful : Faithful papers
papers_faithful = record {
  reads = λ file buffer o r. r;
  writes = λ tokens buffer o w. w;
  translates = λ file table o t. t;
  checks = λ table buffer used counts o c. c;
  performs = λ table buffer used q second counts o p. p;
  tells = λ table counts name o t. t;
  performs_list = λ table buffer used list counts o p. p;
  performs_group = λ table buffer used list second o p. p;
  compares = λ old new e buffer o c. c;
  imports = λ text buffer o i. i;
  names = λ text buffer o n. n;
  spots = λ text o s. s;
}
