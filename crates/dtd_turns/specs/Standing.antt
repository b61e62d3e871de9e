-- Where the reader stands in a text, and what one turn adds. Assumes nothing.
use Rattle.std.specs.Prelude.{◌≡◌, Option, None, Some, Result, List, [], ◌∷◌, ◌++◌, ℕ, ◌≤◌, ◌<◌, length, take}
use Rattle.paper.specs.Basics.{most_elements, most_attributes}
use Rattle.paper.specs.Dtd.Declarations.{Declaration, element_names, attribute_names}
use Rattle.paper.specs.Dtd.Readers.{Read}
use Rattle.dtd_words.specs.declared.Fault.{Fault}
use Rattle.dtd_words.specs.Places.{At}
use Rattle.dtd_words.specs.Words.{CameTo}
use Rattle.dtd_names.specs.Named.{names_at}
use Rattle.dtd_elements.specs.declared.Element.{Element}
use Rattle.dtd_elements.specs.Stored.{Stored}
use Rattle.dtd_before.specs.Paths.{declared_to}
use Rattle.dtd_before.specs.Scans.{Ready}
use Rattle.dtd_heads.specs.Heads.{Heads}
use Rattle.dtd_turns.specs.declared.Turn.{Turn}

-- Elements and attributes that were declared up to a place stand at these places, and the table has their rows; something follows.
pub record Standing (text : List ℕ) (at : ℕ) (elements attributes : List ℕ) (defined : ℕ) (heads : List ℕ) (many : ℕ) (rows : List ℕ) : Type 0 where
  pub below : at < length text
  pub ready : Ready text at (take defined attributes)
  pub few_attributes : defined ≤ most_attributes
  pub few : length elements ≤ most_elements
  pub names : names_at text elements ≡ element_names (declared_to text at)
  pub room : most_attributes ≤ length attributes
  pub table : Heads text (declared_to text at) heads many rows

-- the places of a turn's element, if it declares one: of its name, its content and the end of that
abbrev pub named_by : Option Element → List ℕ
named_by None = []
named_by (Some e) = e.name ∷ []

abbrev pub contents_by : Option Element → List ℕ
contents_by None = []
contents_by (Some e) = e.content ∷ []

abbrev pub ends_by : Option Element → List ℕ
ends_by None = []
ends_by (Some e) = e.end ∷ []

-- What a turn adds to `old`: no element or one, names of attributes at the end of the list, and rows.
pub record Turned (text : List ℕ) (old : List Declaration) (attributes heads rows : List ℕ) (t : Turn) (new : List Declaration) : Type 0 where
  pub names : element_names new ≡ names_at text (named_by t.element)
  pub stored : Stored text new (contents_by t.element) (ends_by t.element)
  pub listed : names_at text (take t.attributes attributes) ≡ attribute_names (old ++ new)
  pub few : t.attributes ≤ most_attributes
  pub table : Heads text (old ++ new) heads t.many rows

-- what the reader of a turn came to
abbrev pub TurnIs : (text : List ℕ) (old : List Declaration) (attributes heads rows : List ℕ) → Turn → List Declaration → List ℕ → Type 0
TurnIs text old attributes heads rows t new s = At text t.at s × Turned text old attributes heads rows t new

abbrev pub TurnCame : (text : List ℕ) (old : List Declaration) (attributes heads rows : List ℕ) → Result Turn Fault → Read (List Declaration) → Type 0
TurnCame text old attributes heads rows r o = CameTo (TurnIs text old attributes heads rows) text r o
