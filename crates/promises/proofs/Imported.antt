-- Item 4, proved of the paper's calls on a DTD text. Assumes nothing.
use Rattle.std.specs.Prelude.{◌≡◌, refl, ◌≢◌, ◌⊎◌, Bool, true, false, cond, ◌&&◌, List, [], ◌++◌, ℕ, leb, ltb, eqb, length, take, drop}
use Rattle.std.proofs.Common.{sym, ap, subst, ◌∙◌, inl, inr, arith, eqb-true, leb-true, le-leb, ltb-true, lt-ltb, take_at}
use Rattle.std.proofs.Math.Bool.{and-eq-true_iff}
use Rattle.std.proofs.lemmas.Bool.{eqb-false}
use Rattle.basic_laws.specs.Bools.{clash}
use Rattle.paper.specs.Files.{refused, made, Counted, counted}
use Rattle.paper.specs.Schema.{schema_of, ok as reads_as}
use Rattle.paper.specs.Table.{table_length, translate}
use Rattle.paper.specs.Dtd.Declarations.{Declaration}
use Rattle.paper.specs.Dtd.Numbering.{schema_for, names_of}
use Rattle.paper.specs.Dtd.Readers.{Read, stop, ok}
use Rattle.paper.specs.Dtd.Imported.{declared, worded, schema_file, import, names, Spot, spot_in, spot}
use Rattle.paper.specs.Calls as paper
use Rattle.dtd_laws.specs.Exact.{never}
use Rattle.dtd_laws.specs.Taken.{is_declared, Taken, taken_whole, taken_exactly}
use Rattle.dtd_laws.specs.Unique.{unique}
use Rattle.dtd_laws.specs.Refusals.{refused_with}
use Rattle.dtd_schema_laws.specs.Whole.{kept_whole}
use Rattle.dtd_schema_laws.specs.Ambiguity.{AmbiguousModel}
use Rattle.dtd_schema_laws.specs.Theorems as laws
use Rattle.dtd_stays_laws.specs.Theorems as stays
use Rattle.promises.specs.Calls.{papers}
use Rattle.promises.specs.Statements.{Bytes}
use Rattle.promises.proofs.ByFile.{translate_length}
use Rattle.promises.specs.Dtd.{Declares, Room, Turned, Spotted, Agrees, FileTranslated, FaultStays, ImportThenTranslate, Numbered, ContentByText, ValidBySchema}

-- ---- a text that is taken

module _ (text : List ℕ) (ds : List Declaration) where
  pub taken_of : Declares text ds → Taken text ds
  taken_of d = record { spells = d.spells; some_element = d.some_element; keeps = (kept_whole (is_declared ds) ds).1 d.within }

  declares_of : Taken text ds → Declares text ds
  declares_of t = record { spells = t.spells; some_element = t.some_element; within = (kept_whole (is_declared ds) ds).0 t.keeps }

-- a text is refused and declares nothing, or it declares something
data Comes (text : List ℕ) : Type 0 where
  refuses : (k : ℕ) (t : List ℕ) → declared text ≡ stop k t → (k ≡ 14) ⊎ (k ≡ 2) → ¬ ((ds : List Declaration) × Declares text ds) → Comes text
  takes : (ds : List Declaration) (t : List ℕ) → declared text ≡ ok ds t → Declares text ds → Comes text

comes : (text : List ℕ) → Comes text
comes text = by (declared text) refl
  where
    by : (o : Read (List Declaration)) → declared text ≡ o → Comes text
    by (stop k t) e = refuses k t e (refused_with text t k e) (λ (ds, d). never (sym e ∙ taken_whole text ds (taken_of text ds d)))
    by (ok ds t) e = takes ds t e (declares_of text ds ((taken_exactly text ds).0 (t, e)))

apart : {k : ℕ} → (k ≡ 14) ⊎ (k ≡ 2) → (k ≢ 0) × (k ≢ 5)
apart (inl e) = (λ z. omega arith, λ z. omega arith)
apart (inr e) = (λ z. omega arith, λ z. omega arith)

-- ---- the importer and the list of names. f: the bytes of the declarations

module _ (f : List Declaration → List ℕ) (text buffer : List ℕ) where
  abbrev call : Counted
  call = counted (worded f (declared text) buffer) buffer

  abbrev test : List ℕ → Bool
  test l = leb (length l) (length buffer) && ltb (length l) 4294967296

  room_of : (l : List ℕ) → test l ≡ true → Room l buffer
  room_of l p =
      let (i, j) = (and-eq-true_iff (leb (length l) (length buffer)) (ltb (length l) 4294967296)).0 p in
      (leb-true (length l) (length buffer) i, ltb-true (length l) 4294967296 j)

  no_room_of : (l : List ℕ) → test l ≡ false → ¬ Room l buffer
  no_room_of l p (i, j) =
      clash ((and-eq-true_iff (leb (length l) (length buffer)) (ltb (length l) 4294967296)).1 (le-leb (length l) (length buffer) i, lt-ltb (length l) 4294967296 j)) p

  -- what the declarations of one text take
  same_room : (ds es : List Declaration) → Declares text ds → Declares text es → Room (f ds) buffer → Room (f es) buffer
  same_room ds es d e r = subst (λ x. Room (f x) buffer) (unique d.spells e.spells) r

  by_room : (ds : List Declaration) → Declares text ds → (b : Bool) → test (f ds) ≡ b
      → Turned f text buffer (counted (cond b (made (f ds)) (refused 5)) buffer)
  by_room ds d true p = record {
    done_exactly = (λ z. (ds, d, room_of (f ds) p), λ x. refl);
    writes = λ es e r. ap (λ x. record { number = 0; count = length (f x); buffer = f x ++ drop (length (f x)) buffer }) (unique d.spells e.spells);
    no_room_exactly = (λ z. absurd (omega arith), λ (es, e, n). absurd (n (same_room ds es d e (room_of (f ds) p))));
    refused_exactly = (λ z. absurd ((apart z).0 refl), λ n. absurd (n (ds, d)));
  }
  by_room ds d false p = record {
    done_exactly = (λ z. absurd (omega arith), λ (es, e, r). absurd (no_room_of (f ds) p (same_room es ds e d r)));
    writes = λ es e r. absurd (no_room_of (f ds) p (same_room es ds e d r));
    no_room_exactly = (λ z. (ds, d, no_room_of (f ds) p), λ x. refl);
    refused_exactly = (λ z. absurd ((apart z).1 refl), λ n. absurd (n (ds, d)));
  }

  turned : Turned f text buffer call
  turned = by (comes text)
    where
      by : Comes text → Turned f text buffer call
      by (refuses k t e r n) = rw e (record {
        done_exactly = (λ z. absurd ((apart r).0 z), λ (ds, d, x). absurd (n (ds, d)));
        writes = λ ds d x. absurd (n (ds, d));
        no_room_exactly = (λ z. absurd ((apart r).1 z), λ (ds, d, x). absurd (n (ds, d)));
        refused_exactly = (λ z. n, λ m. r);
      })
      by (takes ds t e d) = rw e (by_room ds d (test (f ds)) refl)

  -- ---- the spot's number

  agrees : Agrees call (spot_in text (declared text))
  agrees = by (comes text)
    where
      roomed : (ds : List Declaration) (t : List ℕ) (b : Bool) → Agrees (counted (cond b (made (f ds)) (refused 5)) buffer) (spot_in text (ok ds t))
      roomed ds t true = record { same = λ n. refl; no_room = λ z. absurd (omega arith) }
      roomed ds t false = record { same = λ n. absurd (n refl); no_room = λ z. refl }

      by : Comes text → Agrees call (spot_in text (declared text))
      by (refuses k t e r n) = rw e (record { same = λ m. refl; no_room = λ z. absurd ((apart r).1 z) })
      by (takes ds t e d) = rw e (roomed ds t (test (f ds)))

pub import_turns : (text buffer : List ℕ) (o : Counted) → paper.Imports text buffer o → Turned schema_file text buffer o
unfolding import
import_turns text buffer o e = rw e (turned schema_file text buffer)

pub names_turn : (text buffer : List ℕ) (o : Counted) → paper.Names text buffer o → Turned names_of text buffer o
unfolding names
names_turn text buffer o e = rw e (turned names_of text buffer)

pub spot_agrees : (text buffer : List ℕ) (o : Counted) (p : Spot) → paper.Imports text buffer o ⊎ paper.Names text buffer o → paper.Spots text p → Agrees o p
unfolding import names spot
spot_agrees text buffer o p (inl e) s = rw (e, s) (agrees schema_file text buffer)
spot_agrees text buffer o p (inr e) s = rw (e, s) (agrees names_of text buffer)

-- ---- the spot

pub spot_tells : (text : List ℕ) (p : Spot) → paper.Spots text p → Spotted text p
unfolding spot
spot_tells text p s = rw s (by (comes text))
  where
    by : Comes text → Spotted text (spot_in text (declared text))
    by (refuses k t e r n) = rw e (record {
      taken_exactly = (λ z. absurd ((apart r).0 z), λ x. absurd (n x));
      at_none = λ z. absurd ((apart r).0 z);
      inside = omega arith;
    })
    by (takes ds t e d) = rw e (record { taken_exactly = (λ z. (ds, d), λ x. refl); at_none = λ z. refl; inside = omega arith })

pub fault_stays : FaultStays papers
fault_stays text x t k met settled = (
  λ p q a b. b ∙ stays.spot_stays text x t k met settled ∙ sym a,
  λ buffer o o' a b. b ∙ stays.import_stays text x t k met settled buffer ∙ sym a,
  λ buffer o o' a b. b ∙ stays.names_stay text x t k met settled buffer ∙ sym a,
)

-- ---- the file of a text

module _ (text buffer : List ℕ) (o : Counted) (i : paper.Imports text buffer o) (z : o.number ≡ 0) (ds : List Declaration) (d : Declares text ds) where
  -- what the importer wrote
  pub file_is : take o.count o.buffer ≡ schema_file ds
  file_is =
      let t = import_turns text buffer o i in
      let (es, e, r) = t.done_exactly.0 z in
      let w = t.writes ds d (same_room schema_file text buffer es ds e d r) in
      rw w (take_at (schema_file ds) (drop (length (schema_file ds)) buffer) (length (schema_file ds)) refl)

  pub file_bytes : Bytes (take o.count o.buffer)
  file_bytes u v b e = laws.file_bytes text ds (taken_of text ds d) u v b (sym file_is ∙ e)

  module _ (table : List ℕ) (p : ℕ × List ℕ) (l : length table ≡ table_length) (t : paper.Translates (take o.count o.buffer) table p) where
    translated : FileTranslated ds table p
    translated = by (laws.ambiguous_or text ds (taken_of text ds d))
      where
        to : p ≡ translate (schema_file ds) table
        to = t ∙ ap (λ x. translate x table) file_is

        by : AmbiguousModel ds ⊎ ¬ AmbiguousModel ds → FileTranslated ds table p
        by (inl m) =
            let k : p.0 ≡ 3 = ap (λ (x : ℕ × List ℕ). x.0) (to ∙ laws.translate_ambiguous text ds (taken_of text ds d) table l m) in
            record {
              ambiguous_exactly = (λ y. m, λ y. k);
              done_exactly = (λ y. absurd (omega arith), λ y. absurd (y m));
              no_other = inr k;
              its_table = λ y. absurd (omega arith);
            }
        by (inr n) =
            let e = to ∙ laws.translate_else text ds (taken_of text ds d) table l n in
            let k : p.0 ≡ 0 = ap (λ (x : ℕ × List ℕ). x.0) e in
            record {
              ambiguous_exactly = (λ y. absurd (omega arith), λ m. absurd (n m));
              done_exactly = (λ y. n, λ m. k);
              no_other = inl k;
              its_table = λ y. ap (λ (x : ℕ × List ℕ). x.1) e;
            }

pub then_translate : ImportThenTranslate papers
then_translate text buffer table o p i z l t ds d = translated text buffer o i z ds d table p l t

-- a done translation of the file reads the schema of the text
pub file_reads : (text buffer lent table : List ℕ) (o : Counted) → paper.Imports text buffer o → o.number ≡ 0
    → paper.Translates (take o.count o.buffer) lent (0, table)
    → (ds : List Declaration) → Declares text ds → schema_of (take o.count o.buffer) ≡ reads_as (schema_for ds) []
file_reads text buffer lent table o i z t ds d = by (eqb (length lent) table_length) refl
  where
    by : (b : Bool) → eqb (length lent) table_length ≡ b → schema_of (take o.count o.buffer) ≡ reads_as (schema_for ds) []
    by true p =
        let w = then_translate text buffer lent o (0, table) i z (eqb-true (length lent) table_length p) t ds d in
        ap schema_of (file_is text buffer o i z ds d) ∙ laws.else_read text ds (taken_of text ds d) (w.done_exactly.0 refl)
    by false p = let y : ◌≡◌ {A = ℕ} 0 13 = (translate_length (take o.count o.buffer) lent (0, table) t).1 (eqb-false (length lent) table_length p) in absurd (omega arith)

-- ---- the text's own expressions

pub numbered : Numbered
numbered text ds d = laws.numbered text ds (taken_of text ds d)

pub content_by_text : ContentByText
content_by_text text ds d = laws.children_by_text text ds (taken_of text ds d)

pub valid_by_schema : ValidBySchema
valid_by_schema text ds d = laws.document_by_text text ds (taken_of text ds d)
