-- Every promise of item 4 that is proved: a line for each statement, with the proof that it cites. Those of the calls are proved of any
-- calls that allow no outcome but the paper's. Assumes nothing.
use Rattle.std.proofs.Common.{sym, ◌∙◌, inl, inr}
use Rattle.std.proofs.Math.Logic.Iff
use Rattle.std.specs.Prelude.{[], take}
use Rattle.paper.specs.Dtd.Numbering.{schema_for}
use Rattle.dtd_laws.specs.Unique.{unique}
use Rattle.answer_laws.specs.Import as import
use Rattle.promises.specs.Calls.{Calls, Faithful}
use Rattle.promises.specs.Dtd as dtd
use Rattle.promises.proofs.Always as always
use Rattle.promises.proofs.Imported as imported
use Rattle.promises.proofs.Theorems.{check_valid, demand_3}

-- ---- texts

pub one_reading : dtd.OneReading
one_reading text ds es a b = unique a b

pub numbered : dtd.Numbered
numbered = imported.numbered

pub content_by_text : dtd.ContentByText
content_by_text = imported.content_by_text

pub valid_by_schema : dtd.ValidBySchema
valid_by_schema = imported.valid_by_schema

-- ---- the calls

module _ (calls : Calls) (is : Faithful calls) where
  pub import_determinate : dtd.ImportDeterminate calls
  import_determinate i o p a b = is.imports _ _ o a ∙ sym (is.imports _ _ p b)

  pub names_determinate : dtd.NamesDeterminate calls
  names_determinate i o p a b = is.names _ _ o a ∙ sym (is.names _ _ p b)

  pub spot_determinate : dtd.SpotDeterminate calls
  spot_determinate i o p a b = is.spots _ o a ∙ sym (is.spots _ p b)

  pub import_answers_lem : dtd.ImportAnswers calls
  import_answers_lem text buffer o i = import.import_answers_lem text buffer o (is.imports text buffer o i)

  pub names_answers_lem : dtd.NamesAnswers calls
  names_answers_lem text buffer o n = import.names_answers_lem text buffer o (is.names text buffer o n)

  pub spot_answers_lem : dtd.SpotAnswers calls
  spot_answers_lem text p s = import.spot_answers_lem text p (is.spots text p s)

  pub import_keeps : dtd.ImportKeeps calls
  import_keeps text buffer o i = always.import_keeps text buffer o (is.imports text buffer o i)

  pub names_keeps : dtd.NamesKeeps calls
  names_keeps text buffer o n = always.names_keeps text buffer o (is.names text buffer o n)

  pub import_turns : dtd.ImportTurns calls
  import_turns text buffer o i = imported.import_turns text buffer o (is.imports text buffer o i)

  pub names_turn : dtd.NamesTurn calls
  names_turn text buffer o n = imported.names_turn text buffer o (is.names text buffer o n)

  pub spot_tells : dtd.SpotTells calls
  spot_tells text p s = imported.spot_tells text p (is.spots text p s)

  pub spot_agrees : dtd.SpotAgrees calls
  spot_agrees text buffer o p (inl i) s = imported.spot_agrees text buffer o p (inl (is.imports text buffer o i)) (is.spots text p s)
  spot_agrees text buffer o p (inr n) s = imported.spot_agrees text buffer o p (inr (is.names text buffer o n)) (is.spots text p s)

  pub fault_stays : dtd.FaultStays calls
  fault_stays text x t k met settled =
      let (s, i, n) = imported.fault_stays text x t k met settled in (
        λ p q a b. s p q (is.spots text p a) (is.spots _ q b),
        λ buffer o o' a b. i buffer o o' (is.imports text buffer o a) (is.imports _ buffer o' b),
        λ buffer o o' a b. n buffer o o' (is.names text buffer o a) (is.names _ buffer o' b),
      )

  pub import_then_translate : dtd.ImportThenTranslate calls
  import_then_translate text buffer table o p i z l t = imported.then_translate text buffer table o p (is.imports text buffer o i) z l (is.translates _ table p t)

  pub imported_is_translated : dtd.ImportedIsTranslated calls
  imported_is_translated text table i ds d =
      let e = is.imports text i.buffer i.outcome i.imports in
      record {
        file = take i.outcome.count i.outcome.buffer;
        lent = i.lent;
        left = [];
        bytes = imported.file_bytes text i.buffer i.outcome e i.done ds d;
        reads = imported.file_reads text i.buffer i.lent table i.outcome e i.done (is.translates _ i.lent (0, table) i.translates) ds d;
        translates = i.translates;
      }

  pub check_by_text : dtd.CheckByText calls
  check_by_text text table i ds d buffer used counts o c =
      Iff.trans (check_valid calls is (schema_for ds) table (imported_is_translated text table i ds d) buffer used counts o c) (valid_by_schema text ds d buffer used)

  pub demand_3_by_text : dtd.Demand3ByText calls
  demand_3_by_text text table i ds d buffer used v counts c l r =
      demand_3 calls is (schema_for ds) table (imported_is_translated text table i ds d) buffer used ((valid_by_schema text ds d buffer used).1 v) counts c l r
