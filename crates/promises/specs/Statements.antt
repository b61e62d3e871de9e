-- Every promise, stated: each is a type, and its proof stands in Theorems. Those of the calls are said of any calls, each given
-- by the outcomes that its contract allows. Assumes nothing.
use Rattle.std.specs.Prelude.{◌≡◌, ◌↔◌, ◌≢◌, ◌⊎◌, Bool, true, List, [], ◌∷◌, ◌++◌, map, ℕ, ◌≤◌, ◌<◌, T, ℤ, length, take, get_or}
use Rattle.paper.specs.declared.Tok.{Tok}
use Rattle.paper.specs.declared.Tok.TheVariants.{Start, Bad}
use Rattle.paper.specs.Files.{Counted, file_of}
use Rattle.paper.specs.Expressions.{Expr, Matches, Marked}
use Rattle.paper.specs.Sets.{nullable, bit, first_word, last_word, follow_word}
use Rattle.paper.specs.Matching.{matches, begins}
use Rattle.paper.specs.Schema.{model, Schema, ok, stop, schema_of}
use Rattle.paper.specs.SchemaWritten.{schema_written, formed, Unambiguous, MeetsAmbiguous}
use Rattle.paper.specs.Table.{table_length, table_of, proper}
use Rattle.paper.specs.Tokens.{toks, kids, close, child_at}
use Rattle.paper.specs.Shape.{is_element, shape_of}
use Rattle.paper.specs.Trees.{Forest, flat, IsTree, InShape}
use Rattle.paper.specs.TreeEdits.{TreeEdit, looked}
use Rattle.paper.specs.Rules.{of_schema, of_table}
use Rattle.paper.specs.Judgement.{Answer, content_good, content_begun, judge, checking}
use Rattle.paper.specs.Validity.{ValidDocument, Points, Begun, PointsAt}
use Rattle.paper.specs.Edits.{Request, Outcome, edited}
use Rattle.paper.specs.Answers.{Answers, reader_answers, writer_answers, translator_answers, check_answers, edit_answers}
use Rattle.promises.specs.Calls.{Calls}
use Rattle.promises.specs.Right.{Kept, Left, TrueBeside, Step, EachRight}

-- ---- what the tests and sets of the paper mean

-- "the tree": a document has the shape of one element exactly if it is the tokens of a tree of elements
abbrev pub ShapeIsTree : Type 0
ShapeIsTree = (d : List Tok) → (is_element d ≡ true) ↔ IsTree d

-- .. and has shape exactly if it is such a tree's tokens within the limits
abbrev pub ShapeExactly : Type 0
ShapeExactly = (buffer : List ℕ) (used : ℕ) → (shape_of buffer used ≡ true) ↔ InShape buffer used

-- the test of a child sequence says what the expression means
abbrev pub MatchingMeans : Type 0
MatchingMeans = (e : Expr) (w : List ℕ) → T (matches e w) ↔ Matches e w

-- .. and so does the test whether valid content can begin with some names
abbrev pub BeginningMeans : Type 0
BeginningMeans = (e : Expr) (w : List ℕ) → T (begins e w) ↔ ((v : List ℕ) × Matches e (w ++ v))

-- which is what it is, of a model, that valid content begins with elements of these names
abbrev pub BegunMeans : Type 0
BegunMeans = (e : Expr) (w : List ℕ) → Begun (model e) (map Start w) ↔ ((v : List ℕ) × Matches e (w ++ v))

-- "1 if no child at all matches, else 0"
abbrev pub NoChildMeans : Type 0
NoChildMeans = (e : Expr) → T (nullable e) ↔ Marked 0 e []

-- "First and last are those that can begin and end a match", bit k for occurrence k
abbrev pub FirstMeans : Type 0
FirstMeans = (e : Expr) (k : ℕ) → T (bit (first_word 0 e) k) ↔ ((v : List ℕ) × Marked 0 e (k ∷ v))

abbrev pub LastMeans : Type 0
LastMeans = (e : Expr) (k : ℕ) → T (bit (last_word 0 e) k) ↔ ((u : List ℕ) × Marked 0 e (u ++ k ∷ []))

-- "a follow set, those that can come directly after"
abbrev pub FollowMeans : Type 0
FollowMeans = (e : Expr) (j k : ℕ) → T (bit (follow_word 0 e j) k) ↔ ((u : List ℕ) × (v : List ℕ) × Marked 0 e (u ++ j ∷ k ∷ v))

-- the place of child j, among the tokens behind an element's start: there it stands, before it stand the children before it, and past
-- the last child it is the place of the element's end
abbrev pub ChildPlaces : Type 0
ChildPlaces = (j : ℕ) (d : List Tok)
    → (j < length (kids 0 d) → get_or d (child_at j 0 d) Bad ≡ get_or (kids 0 d) j Bad)
    × (kids 0 (take (child_at j 0 d) d) ≡ take j (kids 0 d))
    × (child_at (length (kids 0 d)) 0 d ≡ close 0 d)

-- "In a table we didn't translate, it is where the run has no next occurrence."
abbrev pub PointsByRun : Type 0
PointsByRun = (table : List ℕ) (judged : ℕ → Bool) (d : List Tok) (place : ℕ) → judge (of_table table) judged d ≡ (9, place)
    → Points (λ n k. T (content_begun (of_table table) n k)) (λ n k. T (content_good (of_table table) n k)) d place

-- ---- files

-- a list of bytes
abbrev pub Bytes : List ℕ → Type 0
Bytes l = (u v : List ℕ) (b : ℕ) → l ≡ u ++ b ∷ v → b < 256

-- the file of a schema within the limits, none of whose models is ambiguous
abbrev pub FileOf : List ℕ → Schema → Type 0
FileOf file s = (file ≡ file_of (schema_written s)) × (formed s ≡ true) × Unambiguous s.elements

-- "A schema is refused as ambiguous exactly when a model is." A file is taken exactly if it is that of such a schema ..
abbrev pub TakenExactly : Type 0
TakenExactly = (file : List ℕ) (s : Schema) → Bytes file → ((left : List ℕ) × (schema_of file ≡ ok s left)) ↔ FileOf file s

-- .. and refused with 3 exactly if it begins as such a file does, up to a model that is ambiguous.
abbrev pub AmbiguousExactly : Type 0
AmbiguousExactly = (file : List ℕ) → Bytes file → (schema_of file ≡ stop 3) ↔ MeetsAmbiguous file

-- ---- the calls

-- "strong enough that two outcomes allowed for one input, answers and every place of lent memory, are proved equal"
module _ {I O : Type 0} (Allows : I → O → Type 0) where
  abbrev pub Determinate : Type 0
  Determinate = (i : I) (o p : O) → Allows i o → Allows i p → o ≡ p

module _ (calls : Calls) where
  open calls use {Reads, Writes, Translates, Checks, Performs}

  -- ---- every call: one outcome for one input

  abbrev pub ReadDeterminate : Type 0
  ReadDeterminate = Determinate {I = List ℕ × List ℕ} (λ i. Reads i.0 i.1)

  abbrev pub WriteDeterminate : Type 0
  WriteDeterminate = Determinate {I = List ℕ × List ℕ} (λ i. Writes i.0 i.1)

  abbrev pub TranslateDeterminate : Type 0
  TranslateDeterminate = Determinate {I = List ℕ × List ℕ} (λ i. Translates i.0 i.1)

  abbrev pub CheckDeterminate : Type 0
  CheckDeterminate = Determinate {I = List ℕ × List ℕ × ℕ × List ℤ} (λ i. Checks i.0 i.1 i.2 i.3)

  abbrev pub EditDeterminate : Type 0
  EditDeterminate = Determinate {I = List ℕ × List ℕ × ℕ × Request × List ℕ × List ℤ} (λ i. Performs i.0 i.1 i.2 i.3 i.4 i.5)

  -- ---- demand 1: "Every call takes every input and answers a number of the paper."

  abbrev pub ReadAnswers : Type 0
  ReadAnswers = (file buffer : List ℕ) (o : Counted) → Reads file buffer o → Answers reader_answers o.number 0

  abbrev pub WriteAnswers : Type 0
  WriteAnswers = (tokens buffer : List ℕ) (o : Counted) → Writes tokens buffer o → Answers writer_answers o.number 0

  abbrev pub TranslateAnswers : Type 0
  TranslateAnswers = (file table : List ℕ) (o : ℕ × List ℕ) → Translates file table o → Answers translator_answers o.0 0

  abbrev pub CheckAnswers : Type 0
  CheckAnswers = (table buffer : List ℕ) (used : ℕ) (counts : List ℤ) (o : Answer × List ℤ) → Checks table buffer used counts o → Answers check_answers o.0.0 o.0.1

  -- "A whole check never gives 7"
  abbrev pub CheckNever7 : Type 0
  CheckNever7 = (table buffer : List ℕ) (used : ℕ) (counts : List ℤ) (o : Answer × List ℤ) → Checks table buffer used counts o → o.0.0 ≢ 7

  abbrev pub EditAnswers : Type 0
  EditAnswers = (table buffer : List ℕ) (used : ℕ) (q : Request) (second : List ℕ) (counts : List ℤ) (o : Outcome) → Performs table buffer used q second counts o → Answers edit_answers o.number o.place

  -- "A refused call leaves all lent memory as it was."
  abbrev pub ReadKeeps : Type 0
  ReadKeeps = (file buffer : List ℕ) (o : Counted) → Reads file buffer o → o.number ≢ 0 → (o.count ≡ 0) × (o.buffer ≡ buffer)

  abbrev pub WriteKeeps : Type 0
  WriteKeeps = (tokens buffer : List ℕ) (o : Counted) → Writes tokens buffer o → o.number ≢ 0 → (o.count ≡ 0) × (o.buffer ≡ buffer)

  abbrev pub TranslateKeeps : Type 0
  TranslateKeeps = (file table : List ℕ) (o : ℕ × List ℕ) → Translates file table o → o.0 ≢ 0 → o.1 ≡ table

  abbrev pub EditKeeps : Type 0
  EditKeeps = (table buffer : List ℕ) (used : ℕ) (q : Request) (second : List ℕ) (counts : List ℤ) (o : Outcome) → Performs table buffer used q second counts o → o.number ≢ 0 → Kept buffer used second counts o

  -- ---- demand 2

  -- "Read∘write and write∘read give the same tokens and bytes": a file that was read, written again
  abbrev pub ReadThenWrite : Type 0
  ReadThenWrite = (file buffer room : List ℕ) (o p : Counted) → Bytes file
      → Reads file buffer o → o.number ≡ 0 → Writes (take o.count o.buffer) room p → p.number ≡ 0
      → (take p.count p.buffer ≡ file)

  -- tokens that were written, read again
  abbrev pub WriteThenRead : Type 0
  WriteThenRead = (tokens buffer room : List ℕ) (o p : Counted)
      → Writes tokens buffer o → o.number ≡ 0 → Reads (take o.count o.buffer) room p → p.number ≡ 0
      → (take p.count p.buffer ≡ tokens)

  -- the call back is done where it has room
  abbrev pub ReadThenWriteDone : Type 0
  ReadThenWriteDone = (file buffer room : List ℕ) (o p : Counted) → Bytes file
      → Reads file buffer o → o.number ≡ 0 → Writes (take o.count o.buffer) room p → length file ≤ length room
      → p.number ≡ 0

  abbrev pub WriteThenReadDone : Type 0
  WriteThenReadDone = (tokens buffer room : List ℕ) (o p : Counted)
      → Writes tokens buffer o → o.number ≡ 0 → Reads (take o.count o.buffer) room p → length tokens ≤ length room
      → p.number ≡ 0

  -- A schema, its file, and the table that a done translation left.
  pub record Translated (s : Schema) (table : List ℕ) : Type 0 where
    pub file : List ℕ
    pub lent : List ℕ
    pub left : List ℕ
    pub bytes : Bytes file
    pub reads : schema_of file ≡ ok s left
    pub translates : Translates file lent (0, table)

  -- "The whole check says valid exactly when the document is valid"
  abbrev pub CheckValid : Type 0
  CheckValid = (s : Schema) (table : List ℕ) → Translated s table
      → (buffer : List ℕ) (used : ℕ) (counts : List ℤ) (o : Answer × List ℤ) → Checks table buffer used counts o
      → (o.0.0 ≡ 0) ↔ ValidDocument s buffer used

  -- "else the first broken rule and its place": number and place are those of the judgement from the expressions
  abbrev pub CheckByExpressions : Type 0
  CheckByExpressions = (s : Schema) (table : List ℕ) → Translated s table
      → (buffer : List ℕ) (used : ℕ) (counts : List ℤ) (o : Answer × List ℤ) → Checks table buffer used counts o
      → o.0 ≡ checking (of_schema s) buffer used

  -- "Answer 9 shall give the first child or text at which no valid content can begin that way, or the element's end token if the children
  -- stop too early", by the schema's own expressions
  abbrev pub CheckPoints : Type 0
  CheckPoints = (s : Schema) (table : List ℕ) → Translated s table
      → (buffer : List ℕ) (used : ℕ) (counts : List ℤ) (o : Answer × List ℤ) → Checks table buffer used counts o → o.0.0 ≡ 9
      → PointsAt s (toks (take used buffer)) o.0.1

  abbrev pub EditPoints : Type 0
  EditPoints = (s : Schema) (table : List ℕ) → Translated s table
      → (buffer : List ℕ) (used : ℕ) (q : Request) (second : List ℕ) (counts : List ℤ) (o : Outcome) → Performs table buffer used q second counts o → o.number ≡ 9
      → PointsAt s (toks (edited q (take used buffer))) o.place

  abbrev pub EditLeaves : Type 0
  EditLeaves = (table buffer : List ℕ) (used : ℕ) (q : Request) (second : List ℕ) (counts : List ℤ) (o : Outcome) → Performs table buffer used q second counts o → o.number ≡ 0 → Left (of_table table).elements buffer used q second counts o

  -- .. and on the tree: the tree that the document was, and the one that it is now, are as the edit rules say; so are the children looked at
  abbrev pub EditIsTreeEdit : Type 0
  EditIsTreeEdit = (table buffer : List ℕ) (used : ℕ) (q : Request) (second : List ℕ) (counts : List ℤ) (o : Outcome) → Performs table buffer used q second counts o → o.number ≡ 0
      → (old : Forest) × (new : Forest) × (toks (take used buffer) ≡ flat old []) × (t : TreeEdit q old new)
      × (toks (take o.used o.buffer) ≡ flat new []) × (o.children ≡ looked t)

  -- ---- demand 3

  -- the translator refuses a table of another length (13), and for one of 6,675 numbers ..
  abbrev pub TranslateLength : Type 0
  TranslateLength = (file table : List ℕ) (o : ℕ × List ℕ) → Translates file table o → (o.0 ≡ 13) ↔ (length table ≢ table_length)

  -- .. is done exactly if the file is that of a schema within the limits, none of whose models is ambiguous; it leaves its table
  abbrev pub TranslateDone : Type 0
  TranslateDone = (file table : List ℕ) (o : ℕ × List ℕ) → Translates file table o → Bytes file → length table ≡ table_length
      → (o.0 ≡ 0) ↔ ((s : Schema) × FileOf file s × (o.1 ≡ table_of s))

  -- .. answers 3 exactly if the file begins as such a one does, up to a model that is ambiguous
  abbrev pub TranslateAmbiguous : Type 0
  TranslateAmbiguous = (file table : List ℕ) (o : ℕ × List ℕ) → Translates file table o → Bytes file → length table ≡ table_length
      → (o.0 ≡ 3) ↔ MeetsAmbiguous file

  -- .. and answers 1 or 2 to every other file
  abbrev pub TranslateElse : Type 0
  TranslateElse = (file table : List ℕ) (o : ℕ × List ℕ) → Translates file table o → Bytes file → length table ≡ table_length
      → ((s : Schema) → ¬ FileOf file s) → ¬ MeetsAmbiguous file → (o.0 ≡ 1) ⊎ (o.0 ≡ 2)

  -- the table of a translated schema is proper, and reads as the expressions do
  abbrev pub TableProper : Type 0
  TableProper = (s : Schema) (table : List ℕ) → Translated s table → proper table ≡ true

  abbrev pub TableReads : Type 0
  TableReads = (s : Schema) (table : List ℕ) → Translated s table → of_table table ≡ of_schema s

  -- A run of edits: each is made on what the one before left.
  abbrev pub Runs : (table buffer : List ℕ) → (used : ℕ) → (counts : List ℤ) → List Step → Type 0
  Runs table buffer used counts [] = Unit {0}
  Runs table buffer used counts (x ∷ l) =
      Performs table buffer used x.asked x.lent counts x.came × Runs table x.came.buffer x.came.used x.came.counts l

  -- "From any document valid by the schema's own expressions, through any run of edits by the table, each edit [..]". Item 7: demand 3 reads
  -- "true counts as a premise"
  abbrev pub Demand3 : Type 0
  Demand3 = (s : Schema) (table : List ℕ) → Translated s table
      → (buffer : List ℕ) (used : ℕ) → ValidDocument s buffer used
      → (counts : List ℤ) → TrueBeside s buffer used counts
      → (l : List Step) → Runs table buffer used counts l → EachRight s buffer used counts l
