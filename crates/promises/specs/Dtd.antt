-- Item 4, stated: what is promised of the calls on a DTD text. Assumes nothing.
use Rattle.std.specs.Prelude.{◌≡◌, ◌↔◌, ◌≢◌, ◌⊎◌, true, false, List, ◌++◌, map, ℕ, ◌≤◌, ◌<◌, ℤ, length, take, drop}
use Rattle.paper.specs.declared.Tok.TheVariants.{Start}
use Rattle.paper.specs.Basics.{null}
use Rattle.paper.specs.Files.{Counted}
use Rattle.paper.specs.Table.{table_length, table_of}
use Rattle.paper.specs.Tokens.{toks}
use Rattle.paper.specs.Shape.{shape_of}
use Rattle.paper.specs.Rules.{element_at}
use Rattle.paper.specs.Judgement.{Answer}
use Rattle.paper.specs.Validity.{ContentValid, ValidDocument}
use Rattle.paper.specs.Dtd.Letters.{Name, among}
use Rattle.paper.specs.Dtd.Declarations.{Part, model, Declaration, element_names}
use Rattle.paper.specs.Dtd.Grammar.{Spells}
use Rattle.paper.specs.Dtd.Limits.{Within}
use Rattle.paper.specs.Dtd.Meaning.{Describes}
use Rattle.paper.specs.Dtd.Numbering.{schema_for, names_of}
use Rattle.paper.specs.Dtd.Readers.{stop}
use Rattle.paper.specs.Dtd.Reading.{reading}
use Rattle.paper.specs.Dtd.Imported.{schema_file, Spot}
use Rattle.paper.specs.Answers.{Answers, import_answers, names_answers, spot_answers}
use Rattle.dtd_schema_laws.specs.Ambiguity.{AmbiguousModel}
use Rattle.dtd_schema_laws.specs.Judged.{all_among}
use Rattle.dtd_schema_laws.specs.ByText.{number, DeclaredAt}
use Rattle.dtd_schema_laws.specs.Valid.{ValidByText}
use Rattle.dtd_stays_laws.specs.Stays.{Settled}
use Rattle.promises.specs.Calls.{Calls}
use Rattle.promises.specs.Statements.{Determinate, Translated, Runs}
use Rattle.promises.specs.Right.{TrueBeside, Step, EachRight}

-- ---- what a text declares

-- The text spells the declarations by XML 1.0's productions, an element is among them, they keep to "document 01's limits", nothing is
-- declared twice, and every element that is named is declared.
pub record Declares (text : List ℕ) (ds : List Declaration) : Type 0 where
  pub spells : Spells ds text
  pub some_element : null (element_names ds) ≡ false
  pub within : Within (λ n. among n (element_names ds)) ds

-- two readings of one text are equal, whatever the limits
abbrev pub OneReading : Type 0
OneReading = (text : List ℕ) (ds es : List Declaration) → Spells ds text → Spells es text → ds ≡ es

-- ---- what the importer and the list of names answer. f: the bytes of the declarations

-- there is room for the bytes, and 32 bits hold their count
abbrev pub Room : (l buffer : List ℕ) → Type 0
Room l buffer = (length l ≤ length buffer) × (length l < 4294967296)

module _ (f : List Declaration → List ℕ) where
  pub record Turned (text buffer : List ℕ) (o : Counted) : Type 0 where
    -- done exactly if the text declares something, and there is room for its bytes
    pub done_exactly : (o.number ≡ 0) ↔ ((ds : List Declaration) × Declares text ds × Room (f ds) buffer)
    -- "The bytes are fixed by that reading"; "Bytes after a done file stay."
    pub writes : (ds : List Declaration) → Declares text ds → Room (f ds) buffer
        → o ≡ record { number = 0; count = length (f ds); buffer = f ds ++ drop (length (f ds)) buffer }
    -- "last, 5 for no room"
    pub no_room_exactly : (o.number ≡ 5) ↔ ((ds : List Declaration) × Declares text ds × ¬ Room (f ds) buffer)
    -- "new 14, the text is outside this subset [..]; 2 for document 01's limits"
    pub refused_exactly : ((o.number ≡ 14) ⊎ (o.number ≡ 2)) ↔ ¬ ((ds : List Declaration) × Declares text ds)

-- ---- the spot

-- "0 at 0 for a text that is taken"; else a place of the text, or its end
pub record Spotted (text : List ℕ) (p : Spot) : Type 0 where
  pub taken_exactly : (p.number ≡ 0) ↔ ((ds : List Declaration) × Declares text ds)
  pub at_none : p.number ≡ 0 → p.offset ≡ 0
  pub inside : p.offset ≤ length text

-- the number is that of the other calls, but for their 5
pub record Agrees (o : Counted) (p : Spot) : Type 0 where
  pub same : o.number ≢ 5 → o.number ≡ p.number
  pub no_room : o.number ≡ 5 → p.number ≡ 0

-- ---- the translator, given the file of a text

-- "Ambiguous models pass: 3 is the translator's": it answers nothing else, and that exactly when a model of the text is ambiguous
pub record FileTranslated (ds : List Declaration) (table : List ℕ) (p : ℕ × List ℕ) : Type 0 where
  pub ambiguous_exactly : (p.0 ≡ 3) ↔ AmbiguousModel ds
  pub done_exactly : (p.0 ≡ 0) ↔ ¬ AmbiguousModel ds
  pub no_other : (p.0 ≡ 0) ⊎ (p.0 ≡ 3)
  pub its_table : p.0 ≡ 0 → p.1 ≡ table_of (schema_for ds)

-- ---- the text's own expressions

-- "Elements are numbered by declaration"
abbrev pub Numbered : Type 0
Numbered = (text : List ℕ) (ds : List Declaration) → Declares text ds → (i : ℕ) (d : DeclaredAt ds i) → number ds d.name ≡ i

-- "the translated table then judges by the text's own expressions": children of declared names are valid content of an element with a
-- model exactly if the model, with brackets of any number of parts, describes the names
abbrev pub ContentByText : Type 0
ContentByText = (text : List ℕ) (ds : List Declaration) → Declares text ds → (i : ℕ) (d : DeclaredAt ds i) (p : Part) → d.content ≡ model p
    → (w : List Name) → all_among (element_names ds) w ≡ true
    → ContentValid (element_at (schema_for ds) i).content (map Start (map (number ds) w)) ↔ Describes p w

-- a buffer holds a document that is valid by the text: its shape, and declarations, definitions and names alone
abbrev pub ValidInBuffer : List Declaration → (buffer : List ℕ) → (used : ℕ) → Type 0
ValidInBuffer ds buffer used = (shape_of buffer used ≡ true) × ValidByText ds (toks (take used buffer))

-- a document is valid by the schema of the text exactly if it is by the text
abbrev pub ValidBySchema : Type 0
ValidBySchema = (text : List ℕ) (ds : List Declaration) → Declares text ds → (buffer : List ℕ) (used : ℕ)
    → ValidDocument (schema_for ds) buffer used ↔ ValidInBuffer ds buffer used

-- ---- the calls

module _ (calls : Calls) where
  open calls use {Imports, Names, Spots, Translates, Checks}

  abbrev pub ImportDeterminate : Type 0
  ImportDeterminate = Determinate {I = List ℕ × List ℕ} (λ i. Imports i.0 i.1)

  abbrev pub NamesDeterminate : Type 0
  NamesDeterminate = Determinate {I = List ℕ × List ℕ} (λ i. Names i.0 i.1)

  abbrev pub SpotDeterminate : Type 0
  SpotDeterminate = Determinate {I = List ℕ} Spots

  abbrev pub ImportAnswers : Type 0
  ImportAnswers = (text buffer : List ℕ) (o : Counted) → Imports text buffer o → Answers import_answers o.number 0

  abbrev pub NamesAnswers : Type 0
  NamesAnswers = (text buffer : List ℕ) (o : Counted) → Names text buffer o → Answers names_answers o.number 0

  abbrev pub SpotAnswers : Type 0
  SpotAnswers = (text : List ℕ) (p : Spot) → Spots text p → Answers spot_answers p.number 0

  -- "A refused call leaves all lent memory as it was."
  abbrev pub ImportKeeps : Type 0
  ImportKeeps = (text buffer : List ℕ) (o : Counted) → Imports text buffer o → o.number ≢ 0 → (o.count ≡ 0) × (o.buffer ≡ buffer)

  abbrev pub NamesKeeps : Type 0
  NamesKeeps = (text buffer : List ℕ) (o : Counted) → Names text buffer o → o.number ≢ 0 → (o.count ≡ 0) × (o.buffer ≡ buffer)

  -- "A text is taken exactly if it spells declarations within the limits [..], and then the bytes are those of that reading"
  abbrev pub ImportTurns : Type 0
  ImportTurns = (text buffer : List ℕ) (o : Counted) → Imports text buffer o → Turned schema_file text buffer o

  -- "names, each ended by byte 10, elements 0 to E−1, then [the] attributes from 0"
  abbrev pub NamesTurn : Type 0
  NamesTurn = (text buffer : List ℕ) (o : Counted) → Names text buffer o → Turned names_of text buffer o

  abbrev pub SpotTells : Type 0
  SpotTells = (text : List ℕ) (p : Spot) → Spots text p → Spotted text p

  abbrev pub SpotAgrees : Type 0
  SpotAgrees = (text buffer : List ℕ) (o : Counted) (p : Spot) → Imports text buffer o ⊎ Names text buffer o → Spots text p → Agrees o p

  -- "the first met from the front decides": a fault that the pass from the front meets stays, whatever x is put behind the text. t is the
  -- text from the fault on; it is not empty, and if it is a name (or begins inside a wrong keyword and goes on as one), x does not make
  -- it longer. What is found at the end is not met by that pass.
  abbrev pub FaultStays : Type 0
  FaultStays = (text x t : List ℕ) (k : ℕ) → reading (λ n. true) text ≡ stop k t → Settled x t
      → ((p q : Spot) → Spots text p → Spots (text ++ x) q → q ≡ p)
      × ((buffer : List ℕ) (o o' : Counted) → Imports text buffer o → Imports (text ++ x) buffer o' → o' ≡ o)
      × ((buffer : List ℕ) (o o' : Counted) → Names text buffer o → Names (text ++ x) buffer o' → o' ≡ o)

  -- A file that the importer wrote, given to the translator with a table of the right length.
  abbrev pub ImportThenTranslate : Type 0
  ImportThenTranslate = (text buffer table : List ℕ) (o : Counted) (p : ℕ × List ℕ)
      → Imports text buffer o → o.number ≡ 0 → length table ≡ table_length → Translates (take o.count o.buffer) table p
      → (ds : List Declaration) → Declares text ds → FileTranslated ds table p

  -- A text that was imported, and the table that a done translation of its file left.
  pub record Imported (text table : List ℕ) : Type 0 where
    pub buffer : List ℕ
    pub lent : List ℕ
    pub outcome : Counted
    pub imports : Imports text buffer outcome
    pub done : outcome.number ≡ 0
    pub translates : Translates (take outcome.count outcome.buffer) lent (0, table)

  -- Demands 2 and 3, and request 12, read from the text: the table is that of its schema ..
  abbrev pub ImportedIsTranslated : Type 0
  ImportedIsTranslated = (text table : List ℕ) → Imported text table → (ds : List Declaration) → Declares text ds → Translated calls (schema_for ds) table

  -- .. and the whole check says valid exactly when the document is valid by the text.
  abbrev pub CheckByText : Type 0
  CheckByText = (text table : List ℕ) → Imported text table → (ds : List Declaration) → Declares text ds
      → (buffer : List ℕ) (used : ℕ) (counts : List ℤ) (o : Answer × List ℤ) → Checks table buffer used counts o
      → (o.0.0 ≡ 0) ↔ ValidInBuffer ds buffer used

  -- Demand 3, from a document that is valid by the text
  abbrev pub Demand3ByText : Type 0
  Demand3ByText = (text table : List ℕ) → Imported text table → (ds : List Declaration) → Declares text ds
      → (buffer : List ℕ) (used : ℕ) → ValidInBuffer ds buffer used
      → (counts : List ℤ) → TrueBeside (schema_for ds) buffer used counts
      → (l : List Step) → Runs calls table buffer used counts l → EachRight (schema_for ds) buffer used counts l
