-- The elements of declarations in a row: the next one, and how many bytes they have. Assumes nothing.
use Rattle.std.specs.Prelude.{◌≡◌, refl, List, [], ◌∷◌, ◌++◌, map, ℕ, suc, ◌*◌, ◌≤◌, ◌<◌, length}
use Rattle.std.proofs.Common.{sym, ap, ap₂, ◌∙◌, arith, length-append}
use Rattle.std.proofs.lemmas.List.{length-map}
use Rattle.paper.specs.Basics.{concat}
use Rattle.paper.specs.Files.{file_of}
use Rattle.paper.specs.Schema.{Element}
use Rattle.paper.specs.SchemaWritten.{content_written, element_written}
use Rattle.paper.specs.Dtd.Letters.{Name}
use Rattle.paper.specs.Dtd.Declarations.{Content, Declaration, element, attlist, element_names, defined_for, attribute_names}
use Rattle.paper.specs.Dtd.Numbering.{number_in, content_of, attributes_from, elements_from}
use Rattle.numbers.specs.Small.{file_both}
use Rattle.dtd_names.specs.Named.{name_at}
use Rattle.dtd_row_bytes.specs.Rows.{attributes_written, row_written, row_short}
use Rattle.dtd_row_bytes.specs.Walk.{row_written_lem}
use Rattle.dtd_content_bytes.specs.Contents.{content_bytes, content_short}
use Rattle.dtd_heads.specs.Heads.{row_at}
use Rattle.dtd_file.specs.Filed.{Stands, Stand, Filed}
use Rattle.dtd_file.specs.Elements.{element_bytes}

-- the element of a declaration
abbrev element_of : List Declaration → Name → Content → Element
element_of ds n c = record {
  content = content_of (number_in (element_names ds)) c;
  attributes = attributes_from 0 (attribute_names ds) (defined_for n ds);
}

-- the bytes of the elements of some of the declarations
abbrev pub rest_bytes : List Declaration → List Declaration → List ℕ
rest_bytes ds left = file_of (concat (map element_written (elements_from ds left)))

pub elements_count : (ds left : List Declaration) → length (elements_from ds left) ≡ length (element_names left)
elements_count ds [] = refl
elements_count ds (element n c ∷ left) = ap suc (elements_count ds left)
elements_count ds (attlist n l ∷ left) = elements_count ds left

pub rest_none : (ds left : List Declaration) → length (element_names left) ≡ 0 → rest_bytes ds left ≡ []
rest_none ds [] h = refl
rest_none ds (element n c ∷ left) h = absurd (omega arith)
rest_none ds (attlist n l ∷ left) h = rest_none ds left h

module _ (text elements contents ends rows out : List ℕ) (ds : List Declaration) (f : Filed text elements contents ends rows out ds) where
  pub names_count : length (element_names ds) ≡ length elements
  names_count = ap length (sym f.names) ∙ length-map elements (name_at text)

  element_bytes_lem : (n : Name) (c : Content) (j : ℕ) → Stands text contents ends rows ds n c j
      → file_of (element_written (element_of ds n c)) ≡ element_bytes text elements c (row_at rows j)
  element_bytes_lem n c j s =
      file_both (content_written (content_of (number_in (element_names ds)) c)) (attributes_written (attributes_from 0 (attribute_names ds) (defined_for n ds)))
      ∙ ap₂ (λ x y. x ++ y) (ap (λ l. file_of (content_written (content_of (number_in l) c))) (sym f.names))
      (row_written_lem (attribute_names ds) (defined_for n ds) (row_at rows j) s.row f.few_attributes)

  -- one more element
  rest_more : (n : Name) (c : Content) (j : ℕ) (left : List Declaration) → Stands text contents ends rows ds n c j
      → rest_bytes ds (element n c ∷ left) ≡ element_bytes text elements c (row_at rows j) ++ rest_bytes ds left
  rest_more n c j left s =
      file_both (element_written (element_of ds n c)) (concat (map element_written (elements_from ds left)))
      ∙ ap (λ l. l ++ rest_bytes ds left) (element_bytes_lem n c j s)

  -- the next one
  pub record Next (left : List Declaration) (j : ℕ) : Type 0 where
    pub name : Name
    pub content : Content
    pub rest : List Declaration
    pub here : Stands text contents ends rows ds name content j
    pub later : Stand text contents ends rows ds rest (suc j)
    pub one_less : length (element_names left) ≡ suc (length (element_names rest))
    pub bytes : rest_bytes ds left ≡ element_bytes text elements content (row_at rows j) ++ rest_bytes ds rest

  pub next : (left : List Declaration) (j : ℕ) → 0 < length (element_names left) → Stand text contents ends rows ds left j → Next left j
  next [] j h s = absurd (omega arith)
  next (element n c ∷ left) j h (a, b) = record {
    name = n;
    content = c;
    rest = left;
    here = a;
    later = b;
    one_less = refl;
    bytes = rest_more n c j left a;
  }
  next (attlist n l ∷ left) j h s =
      let x = next left j h s in
      record {
        name = x.name;
        content = x.content;
        rest = x.rest;
        here = x.here;
        later = x.later;
        one_less = x.one_less;
        bytes = x.bytes;
      }

  -- an element has at most 451 bytes
  pub rest_short : (left : List Declaration) (j : ℕ) → Stand text contents ends rows ds left j → length (rest_bytes ds left) ≤ length (element_names left) * 451
  rest_short [] j s = omega arith
  rest_short (element n c ∷ left) j (a, b) =
      let x : List ℕ = content_bytes text elements c in
      let y : List ℕ = row_written (row_at rows j) in
      omega (
        arith,
        ap length (rest_more n c j left a),
        length-append (x ++ y) (rest_bytes ds left),
        length-append x y,
        content_short text elements c f.few a.fits,
        row_short (row_at rows j),
        rest_short left (suc j) b,
      )
  rest_short (attlist n l ∷ left) j s = rest_short left j s
