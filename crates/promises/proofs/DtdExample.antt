-- A DTD text, its table and a document: the premises of the promises from the text hold of them, by computing, and so does what is
-- promised. Assumes nothing.
use Rattle.std.specs.Prelude.{refl, List, [], ◌∷◌, ℕ, replicate}
use Rattle.paper.specs.Table.{table_length, table_of}
use Rattle.paper.specs.Judgement.{check}
use Rattle.paper.specs.Counts.{checked_counts}
use Rattle.paper.specs.Open.{all_open}
use Rattle.paper.specs.Dtd.Letters.{ascii}
use Rattle.paper.specs.Dtd.Declarations.{once, many, word, sequence, only, empty, model, cdata, implied, Declaration, element, attlist}
use Rattle.paper.specs.Dtd.Numbering.{schema_for}
use Rattle.paper.specs.Dtd.Imported.{import}
use Rattle.dtd_schema_laws.specs.Theorems.{taken}
use Rattle.promises.specs.Calls.{papers, papers_faithful}
use Rattle.promises.specs.Dtd.{Declares, Imported, ValidInBuffer}
use Rattle.promises.proofs.DtdTheorems.{check_by_text}

abbrev text : List ℕ
text = ascii "<!ELEMENT a (b*)><!ATTLIST a x CDATA #IMPLIED><!ELEMENT b EMPTY>"

abbrev declarations : List Declaration
declarations =
    element (97 ∷ []) (model (sequence (only (word (98 ∷ []) many)) once))
    ∷ attlist (97 ∷ []) (record { name = 120 ∷ []; kind = cdata; status = implied } ∷ [])
    ∷ element (98 ∷ []) empty
    ∷ []

pub declares : Declares text declarations
unfolding all_open
declares = let (s, e, w) = (taken text declarations).0 ([], refl) in record { spells = s; some_element = e; within = w }

pub imported : Imported papers text (table_of (schema_for declarations))
unfolding all_open
imported = record {
  buffer = replicate 16 0;
  lent = replicate table_length 0;
  outcome = import text (replicate 16 0);
  imports = refl;
  done = refl;
  translates = refl;
}

-- an a with two b's
abbrev document : List ℕ
document = 1 ∷ 9 ∷ 2 ∷ 9 ∷ 2 ∷ 2 ∷ []

pub valid : ValidInBuffer declarations document 6
unfolding all_open
valid = (check_by_text papers papers_faithful text (table_of (schema_for declarations)) imported declarations declares document 6 []
    (check (table_of (schema_for declarations)) document 6, checked_counts (table_of (schema_for declarations)) document 6 []) refl).0 refl
