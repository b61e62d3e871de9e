-- What is told of the declarations of a text, and the schema file that is put for it. Assumes nothing.
use Rattle.std.specs.Prelude.{◌≡◌, true, List, [], ◌∷◌, ℕ, suc, ◌≤◌, length, drop, get_or}
use Rattle.paper.specs.Basics.{most_elements, most_attributes}
use Rattle.paper.specs.SchemaWritten.{most_schema_file}
use Rattle.paper.specs.Dtd.Letters.{Name}
use Rattle.paper.specs.Dtd.Declarations.{Content, Declaration, element, attlist, element_names, defined_for, attribute_names}
use Rattle.paper.specs.Dtd.Grammar.{contentspec}
use Rattle.paper.specs.Dtd.Imported.{schema_file}
use Rattle.paper.specs.Dtd.Limits.{content_kept}
use Rattle.paper.specs.Dtd.Numbering.{model_fits}
use Rattle.lines.specs.Put.{Put}
use Rattle.dtd_names.specs.Named.{names_at}
use Rattle.dtd_rows.specs.Rows.{RowOf}
use Rattle.dtd_heads.specs.Heads.{row_at, most_numbers}

-- Element j is declared with the name n and the content c: where the content stands, and its row. all: every declaration.
pub record Stands (text contents ends rows : List ℕ) (all : List Declaration) (n : Name) (c : Content) (j : ℕ) : Type 0 where
  pub spelled : contentspec c (drop (get_or contents j 0) text) (drop (get_or ends j 0) text)
  pub inside : get_or ends j 0 ≤ length text
  pub fits : content_kept model_fits c ≡ true
  pub row : RowOf (attribute_names all) (defined_for n all) (row_at rows j)

-- the elements of the declarations, from number j on
abbrev pub Stand : (text contents ends rows : List ℕ) (all : List Declaration) → List Declaration → ℕ → Type 0
Stand text contents ends rows all [] j = Unit {0}
Stand text contents ends rows all (element n c ∷ ds) j = Stands text contents ends rows all n c j × Stand text contents ends rows all ds (suc j)
Stand text contents ends rows all (attlist n l ∷ ds) j = Stand text contents ends rows all ds j

-- the declarations ds stand so in the text, and the buffer is as long as the longest schema file
pub record Filed (text elements contents ends rows out : List ℕ) (ds : List Declaration) : Type 0 where
  pub few : length elements ≤ most_elements
  pub some_contents : length elements ≤ length contents
  pub some_ends : length elements ≤ length ends
  pub some_rows : most_numbers ≤ length rows
  pub long : length out ≡ most_schema_file
  pub names : names_at text elements ≡ element_names ds
  pub few_attributes : length (attribute_names ds) ≤ most_attributes
  pub stand : Stand text contents ends rows ds ds 0

-- some declarations do
pub record Files (text elements contents ends rows out : List ℕ) : Type 0 where
  pub ds : List Declaration
  pub filed : Filed text elements contents ends rows out ds

-- whichever declarations do, their file is put
abbrev pub FilePut : (text elements contents ends rows before : List ℕ) (r : ℕ) (after : List ℕ) → Type 0
FilePut text elements contents ends rows before r after =
    (ds : List Declaration) → Filed text elements contents ends rows before ds → Put before 0 (schema_file ds) r after
