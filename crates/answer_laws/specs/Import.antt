-- The calls on a DTD text: every answer is a number of the paper. Assumes nothing.
use Rattle.std.specs.Prelude.{◌≡◌, refl, ◌⊎◌, Bool, true, false, cond, ◌&&◌, List, [], ◌∷◌, ℕ, T, leb, ltb, length}
use Rattle.std.proofs.Common.{inl, inr}
use Rattle.paper.specs.Basics.{elem}
use Rattle.paper.specs.Files.{refused, made, Counted}
use Rattle.paper.specs.Dtd.Declarations.{Declaration}
use Rattle.paper.specs.Dtd.Numbering.{names_of}
use Rattle.paper.specs.Dtd.Readers.{Read, stop, ok}
use Rattle.paper.specs.Dtd.Imported.{declared, worded, schema_file, import, names, Spot, spot_in, spot}
use Rattle.paper.specs.Answers.{Answers, import_answers, names_answers, spot_answers}
use Rattle.paper.specs.Calls.{Imports, Names, Spots}
use Rattle.dtd_laws.specs.Refusals.{refused_with}
use Rattle.answer_laws.specs.ReaderWriter.{Refuses, counted_answers}

abbrev of_import : List ℕ
of_import = 2 ∷ 5 ∷ 14 ∷ []

-- a text's own refusal is one of l
refusal : (l : List ℕ) → T (elem 14 l) → T (elem 2 l) → (text t : List ℕ) (k : ℕ) → declared text ≡ stop k t → T (elem k l)
refusal l a b text t k e = by (refused_with text t k e)
  where
    by : (k ≡ 14) ⊎ (k ≡ 2) → T (elem k l)
    by (inl i) = rw i a
    by (inr i) = rw i b

-- f: what is written of the declarations
worded_refuses : (f : List Declaration → List ℕ) (text buffer : List ℕ) (o : Read (List Declaration)) → declared text ≡ o → Refuses of_import (worded f o buffer)
worded_refuses f text buffer (stop k t) e = refusal of_import tt tt text t k e
worded_refuses f text buffer (ok ds t) e = go (leb (length (f ds)) (length buffer) && ltb (length (f ds)) 4294967296)
  where
    go : (b : Bool) → Refuses of_import (cond b (made (f ds)) (refused 5))
    go true = tt
    go false = tt

pub import_answers_lem : (text buffer : List ℕ) (o : Counted) → Imports text buffer o → Answers import_answers o.number 0
unfolding import
import_answers_lem text buffer o e = counted_answers of_import (worded schema_file (declared text) buffer) buffer o (worded_refuses schema_file text buffer (declared text) refl) e

pub names_answers_lem : (text buffer : List ℕ) (o : Counted) → Names text buffer o → Answers names_answers o.number 0
unfolding names
names_answers_lem text buffer o e = counted_answers of_import (worded names_of (declared text) buffer) buffer o (worded_refuses names_of text buffer (declared text) refl) e

pub spot_answers_lem : (text : List ℕ) (o : Spot) → Spots text o → Answers spot_answers o.number 0
unfolding spot
spot_answers_lem text o e = rw e (go (declared text) refl)
  where
    go : (r : Read (List Declaration)) → declared text ≡ r → Answers spot_answers (spot_in text r).number 0
    go (stop k t) p = record { one_of = refusal spot_answers tt tt text t k p; no_place = λ c. refl }
    go (ok ds t) p = record { one_of = tt; no_place = λ c. refl }
