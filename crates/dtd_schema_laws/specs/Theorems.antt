-- What is proved of item 4's definitions, in one place. Nothing here is new: each line cites the module that proves it. Assumes nothing.
use Rattle.std.specs.Prelude.{◌≡◌, ◌↔◌, ◌⊎◌, true, false, List, [], ◌∷◌, ◌++◌, map, ℕ, ◌<◌, length, take, drop}
use Rattle.paper.specs.declared.Tok.{Tok}
use Rattle.paper.specs.declared.Tok.TheVariants.{Start}
use Rattle.paper.specs.Basics.{null}
use Rattle.paper.specs.Expressions.{Matches}
use Rattle.paper.specs.Schema.{schema_of}
use Rattle.paper.specs.Schema as schema
use Rattle.paper.specs.SchemaWritten.{formed}
use Rattle.paper.specs.Table.{table_length, table_of, translate}
use Rattle.paper.specs.Tokens.{toks}
use Rattle.paper.specs.Shape.{shape_of}
use Rattle.paper.specs.Rules.{element_at}
use Rattle.paper.specs.Validity.{AttributesValid, ContentValid, ElementValid, Valid, ValidDocument}
use Rattle.paper.specs.Dtd.Letters.{Name, among}
use Rattle.paper.specs.Dtd.Declarations.{Part, each, model, Declaration, element_names}
use Rattle.paper.specs.Dtd.Grammar.{Spells}
use Rattle.paper.specs.Dtd.Limits.{Within}
use Rattle.paper.specs.Dtd.Meaning.{Describes}
use Rattle.paper.specs.Dtd.Numbering.{expr_of, number_in, schema_for}
use Rattle.paper.specs.Dtd.Readers.{stop, ok}
use Rattle.paper.specs.Dtd.Imported.{declared, schema_file, import}
use Rattle.dtd_laws.specs.Taken.{is_declared, Taken, taken_exactly}
use Rattle.dtd_laws.specs.Unique.{unique}
use Rattle.dtd_laws.specs.Refusals.{refused_with}
use Rattle.dtd_schema_laws.specs.Whole.{kept_whole}
use Rattle.dtd_schema_laws.specs.Meant.{part_means}
use Rattle.dtd_schema_laws.specs.Formed.{schema_formed}
use Rattle.dtd_schema_laws.specs.Bytes.{file_byte}
use Rattle.dtd_schema_laws.specs.Ambiguity.{AmbiguousModel}
use Rattle.dtd_schema_laws.specs.Ambiguity as ambiguity
use Rattle.dtd_schema_laws.specs.Judged as judged
use Rattle.dtd_schema_laws.specs.Judged.{all_among}
use Rattle.dtd_schema_laws.specs.ByText as by_text
use Rattle.dtd_schema_laws.specs.ByText.{number, DeclaredAt, ContentMeant}
use Rattle.dtd_schema_laws.specs.Valid as valid
use Rattle.dtd_schema_laws.specs.Valid.{AttributesMeant, ValidByText}
use Rattle.dtd_schema_laws.specs.Import as imported
use Rattle.dtd_schema_laws.specs.Import.{Room}

-- ---- which texts are taken

-- A text is taken exactly if it spells declarations, an element among them, that keep to the limits and name declared elements alone.
pub taken : (s : List ℕ) (ds : List Declaration)
    → ((r : List ℕ) × (declared s ≡ ok ds r)) ↔ (Spells ds s × (null (element_names ds) ≡ false) × Within (is_declared ds) ds)
taken s ds = (
  λ e. let t = (taken_exactly s ds).0 e in (t.spells, t.some_element, (kept_whole (is_declared ds) ds).0 t.keeps),
  λ (a, b, c). (taken_exactly s ds).1 (record { spells = a; some_element = b; keeps = (kept_whole (is_declared ds) ds).1 c }),
)

-- Two readings of one text are equal, whatever the limits.
pub one_reading : (s : List ℕ) (ds es : List Declaration) → Spells ds s → Spells es s → ds ≡ es
one_reading s ds es a b = unique a b

-- A text that is not taken is refused with 14, or with 2.
pub refused : (s t : List ℕ) (k : ℕ) → declared s ≡ stop k t → (k ≡ 14) ⊎ (k ≡ 2)
refused = refused_with

-- "The bytes are fixed by that reading": the importer is done exactly if the text is taken and there is room for its file ..
pub import_done : (s buffer : List ℕ) → ((import s buffer).number ≡ 0) ↔ ((ds : List Declaration) × Taken s ds × Room schema_file s buffer ds)
import_done = imported.import_done

-- .. and then leaves that file. "Bytes after a done file stay."
pub import_left : (s buffer : List ℕ) (ds : List Declaration) → Taken s ds → Room schema_file s buffer ds
    → import s buffer ≡ record { number = 0; count = length (schema_file ds); buffer = schema_file ds ++ drop (length (schema_file ds)) buffer }
import_left = imported.import_left

-- ---- the file

-- The schema of a text that is taken keeps to document 01's limits, and its file is a list of bytes.
pub within_limits : (s : List ℕ) (ds : List Declaration) → Taken s ds → formed (schema_for ds) ≡ true
within_limits = schema_formed

pub file_bytes : (s : List ℕ) (ds : List Declaration) → Taken s ds → (u v : List ℕ) (b : ℕ) → schema_file ds ≡ u ++ b ∷ v → b < 256
file_bytes s ds t = file_byte (schema_for ds) (schema_formed s ds t)

-- "Ambiguous models pass: 3 is the translator's." The file of a text that is taken is refused with 3 exactly if a model of the text is
-- ambiguous, and else read as the text's schema, with nothing left over.
pub ambiguous_exactly : (s : List ℕ) (ds : List Declaration) → Taken s ds → (schema_of (schema_file ds) ≡ schema.stop 3) ↔ AmbiguousModel ds
ambiguous_exactly = ambiguity.ambiguous_exactly

pub else_read : (s : List ℕ) (ds : List Declaration) → Taken s ds → ¬ AmbiguousModel ds → schema_of (schema_file ds) ≡ schema.ok (schema_for ds) []
else_read = ambiguity.else_read

pub ambiguous_or : (s : List ℕ) (ds : List Declaration) → Taken s ds → AmbiguousModel ds ⊎ ¬ AmbiguousModel ds
ambiguous_or = ambiguity.ambiguous_or

-- So the translator, lent a table of the right length, answers 3 and leaves it, or answers 0 and leaves the schema's table.
pub translate_ambiguous : (s : List ℕ) (ds : List Declaration) → Taken s ds → (table : List ℕ) → length table ≡ table_length
    → AmbiguousModel ds → translate (schema_file ds) table ≡ (3, table)
translate_ambiguous = ambiguity.translate_ambiguous

pub translate_else : (s : List ℕ) (ds : List Declaration) → Taken s ds → (table : List ℕ) → length table ≡ table_length
    → ¬ AmbiguousModel ds → translate (schema_file ds) table ≡ (0, table_of (schema_for ds))
translate_else = ambiguity.translate_else

-- ---- "the translated table then judges by the text's own expressions"

-- Brackets of any number of parts mean the same as the pairs that they are turned into, however names are numbered.
pub means : (f : Name → ℕ) (p : Part) (v : List ℕ) → Matches (expr_of p f) v ↔ ((w : List Name) × (map f w ≡ v) × Describes p w)
means = part_means

-- Children of declared names match a model's expression, by their numbers, exactly if the model of the text describes them.
pub judges : (l : List Name) (p : Part) (w : List Name) → each p (λ n. among n l) ≡ true → all_among l w ≡ true
    → Matches (expr_of p (number_in l)) (map (number_in l) w) ↔ Describes p w
judges = judged.judged

-- "Elements are numbered by declaration": a declared name's number is how many elements are declared before it.
pub numbered : (s : List ℕ) (ds : List Declaration) → Taken s ds → (i : ℕ) (d : DeclaredAt ds i) → number ds d.name ≡ i
numbered = by_text.number_of

-- An element is valid by the text's schema exactly if the text declares one of its number, its attributes are valid, and its content is
-- what the text declares: EMPTY, no text or one, or children whose names the text's model describes.
pub element_by_text : (ds : List Declaration) (i : ℕ) (h k : List Tok)
    → ElementValid (schema_for ds) i h k ↔ ((d : DeclaredAt ds i) × AttributesValid (element_at (schema_for ds) i) h × ContentMeant ds d.content k)
element_by_text = by_text.element_by_text

pub content_by_text : (ds : List Declaration) (i : ℕ) (d : DeclaredAt ds i) (k : List Tok)
    → ContentValid (element_at (schema_for ds) i).content k ↔ ContentMeant ds d.content k
content_by_text = by_text.content_by_text

-- For children of declared names: they are valid content of an element with a model exactly if the model describes the names.
pub children_by_text : (s : List ℕ) (ds : List Declaration) → Taken s ds → (i : ℕ) (d : DeclaredAt ds i) (p : Part) → d.content ≡ model p
    → (w : List Name) → all_among (element_names ds) w ≡ true
    → ContentValid (element_at (schema_for ds) i).content (map Start (map (number ds) w)) ↔ Describes p w
children_by_text = by_text.children_by_text

-- So for attributes, IDs and references, and for a whole document: it is valid by the schema of the text exactly if it is valid by the
-- text, told of declarations, definitions and names alone.
pub attributes_by_text : (s : List ℕ) (ds : List Declaration) → Taken s ds → (i : ℕ) (d : DeclaredAt ds i) (h : List Tok)
    → AttributesValid (element_at (schema_for ds) i) h ↔ AttributesMeant ds d.name h
attributes_by_text = valid.attributes_by_text

pub valid_by_text : (s : List ℕ) (ds : List Declaration) → Taken s ds → (d : List Tok) → Valid (schema_for ds) d ↔ ValidByText ds d
valid_by_text = valid.valid_by_text

pub document_by_text : (s : List ℕ) (ds : List Declaration) → Taken s ds → (buffer : List ℕ) (used : ℕ)
    → ValidDocument (schema_for ds) buffer used ↔ ((shape_of buffer used ≡ true) × ValidByText ds (toks (take used buffer)))
document_by_text = valid.document_by_text
