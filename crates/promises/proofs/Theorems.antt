-- Every promise that is proved, but for those of items 2, 4, 6, 7 and 9 (UndoTheorems, DtdTheorems, ListTheorems, CountTheorems, GroupTheorems): a line for each statement, with the proof that it cites. Those of
-- the calls are proved of any that allow no outcome but the paper's. Assumes nothing.
use Rattle.std.specs.Prelude.{◌≡◌, ◌↔◌, true, List, [], ◌∷◌, ℕ, ℤ}
use Rattle.std.proofs.Common.{ap, ◌∙◌}
use Rattle.paper.specs.Schema.{Schema}
use Rattle.paper.specs.SchemaWritten.{formed}
use Rattle.paper.specs.Rules.{of_schema}
use Rattle.paper.specs.Judgement.{Answer, checking}
use Rattle.paper.specs.Validity.{ValidDocument}
use Rattle.content_laws.proofs.Theorems as content
use Rattle.shape_laws.specs.Tree.{shape_is_tree}
use Rattle.shape_laws.proofs.TreeDepth as tree-depth
use Rattle.schema_laws.specs.Written.{bytes_of_lem}
use Rattle.judge_laws.proofs.Judged.{checked_valid}
use Rattle.judge_laws.specs.Begun.{names_begun}
use Rattle.judge_laws.specs.Children.{child_there, children_before, past_last}
use Rattle.docfile.specs.Theorems.{read_write, write_read, read_write_done, write_read_done}
use Rattle.answer_laws.specs.ReaderWriter as reader-writer
use Rattle.answer_laws.proofs.Translator as translator
use Rattle.answer_laws.specs.Check as check
use Rattle.answer_laws.specs.Edit as edit
use Rattle.answer_laws.specs.Compare as compare
use Rattle.promises.specs.Calls.{Calls, papers, Faithful}
use Rattle.promises.specs.Statements as promised
use Rattle.promises.specs.Statements.{Translated, Runs}
use Rattle.promises.specs.Right.{Step}
use Rattle.promises.proofs.Always as always
use Rattle.promises.proofs.ByTable as by_table
use Rattle.promises.proofs.ByFile as by_file
use Rattle.promises.proofs.OnTree as on_tree
use Rattle.promises.proofs.Pointing as pointing
use Rattle.promises.proofs.Run.{run_right}
use Rattle.promises.specs.Cost as cost
use Rattle.promises.proofs.Costing as costing
use Rattle.promises.specs.Inclusion as inclusion
use Rattle.promises.proofs.Compared as compared

-- ---- what the tests and sets of the paper mean

pub shape_tree : promised.ShapeIsTree
shape_tree = shape_is_tree

pub shape_exactly : promised.ShapeExactly
shape_exactly = tree-depth.shape_exactly

pub matching_means : promised.MatchingMeans
matching_means = content.matching

pub beginning_means : promised.BeginningMeans
beginning_means = content.beginning

pub begun_means : promised.BegunMeans
begun_means = names_begun

pub no_child_means : promised.NoChildMeans
no_child_means = content.nullable_means 0

pub first_means : promised.FirstMeans
first_means e k = rw (content.first_bits 0 e k) (content.first_means 0 e k)

pub last_means : promised.LastMeans
last_means e k = rw (content.last_bits 0 e k) (content.last_means 0 e k)

pub follow_means : promised.FollowMeans
follow_means e j k = rw (content.follow_bits 0 e j k) (content.follow_means 0 e j k)

pub child_places : promised.ChildPlaces
child_places j d = (child_there j 0 d, children_before j 0 d, past_last 0 d)

pub points_by_run : promised.PointsByRun
points_by_run = pointing.points_by_run

-- ---- files

pub taken : promised.TakenExactly
taken = by_file.taken

pub ambiguous : promised.AmbiguousExactly
ambiguous = by_file.ambiguous

-- ---- the calls

-- a schema that was read keeps the limits
translated_formed : (s : Schema) (table : List ℕ) → Translated papers s table → formed s ≡ true
translated_formed s table t = ((taken t.file s t.bytes).0 (t.left, t.reads)).1

valid_iff : (s : Schema) (table : List ℕ) → Translated papers s table
    → (buffer : List ℕ) (used : ℕ) → ((checking (of_schema s) buffer used).0 ≡ 0) ↔ ValidDocument s buffer used
valid_iff s table t = checked_valid s (translated_formed s table t)

module _ (calls : Calls) (is : Faithful calls) where
  -- ---- every call

  pub read_determinate : promised.ReadDeterminate calls
  read_determinate i o p a b = always.read_determinate i o p (is.reads _ _ o a) (is.reads _ _ p b)

  pub write_determinate : promised.WriteDeterminate calls
  write_determinate i o p a b = always.write_determinate i o p (is.writes _ _ o a) (is.writes _ _ p b)

  pub translate_determinate : promised.TranslateDeterminate calls
  translate_determinate i o p a b = always.translate_determinate i o p (is.translates _ _ o a) (is.translates _ _ p b)

  pub check_determinate : promised.CheckDeterminate calls
  check_determinate i o p a b = always.check_determinate i o p (is.checks _ _ _ _ o a) (is.checks _ _ _ _ p b)

  pub edit_determinate : promised.EditDeterminate calls
  edit_determinate i o p a b = always.edit_determinate i o p (is.performs _ _ _ _ _ _ o a) (is.performs _ _ _ _ _ _ p b)

  -- ---- demand 1

  pub read_answers : promised.ReadAnswers calls
  read_answers file buffer o r = reader-writer.read_answers file buffer o (is.reads file buffer o r)

  pub write_answers : promised.WriteAnswers calls
  write_answers tokens buffer o w = reader-writer.write_answers tokens buffer o (is.writes tokens buffer o w)

  pub translate_answers : promised.TranslateAnswers calls
  translate_answers file table o t = translator.translate_answers file table o (is.translates file table o t)

  pub check_answers_lem : promised.CheckAnswers calls
  check_answers_lem table buffer used counts o c = check.check_answers_lem table buffer used o.0 (ap (λ (x : Answer × List ℤ). x.0) (is.checks table buffer used counts o c))

  pub check_never_7 : promised.CheckNever7 calls
  check_never_7 table buffer used counts o c = check.check_never_7 table buffer used o.0 (ap (λ (x : Answer × List ℤ). x.0) (is.checks table buffer used counts o c))

  pub edit_answers_lem : promised.EditAnswers calls
  edit_answers_lem table buffer used q second counts o p = edit.edit_answers_lem table buffer used q second counts o (is.performs table buffer used q second counts o p)

  pub read_keeps : promised.ReadKeeps calls
  read_keeps file buffer o r = always.read_keeps file buffer o (is.reads file buffer o r)

  pub write_keeps : promised.WriteKeeps calls
  write_keeps tokens buffer o w = always.write_keeps tokens buffer o (is.writes tokens buffer o w)

  pub translate_keeps : promised.TranslateKeeps calls
  translate_keeps file table o t = always.translate_keeps file table o (is.translates file table o t)

  pub edit_keeps : promised.EditKeeps calls
  edit_keeps table buffer used q second counts o p = always.edit_keeps table buffer used q second counts o (is.performs table buffer used q second counts o p)

  -- ---- demand 2

  pub read_then_write : promised.ReadThenWrite calls
  read_then_write file buffer room o p b r z w y =
      (read_write file buffer room o p (bytes_of_lem file b) (is.reads file buffer o r) z (is.writes _ room p w) y).0

  pub write_then_read : promised.WriteThenRead calls
  write_then_read tokens buffer room o p w z r y =
      (write_read tokens buffer room o p (is.writes tokens buffer o w) z (is.reads _ room p r) y).0

  pub read_then_write_done : promised.ReadThenWriteDone calls
  read_then_write_done file buffer room o p b r z w l =
      read_write_done file buffer room o p (bytes_of_lem file b) (is.reads file buffer o r) z (is.writes _ room p w) l

  pub write_then_read_done : promised.WriteThenReadDone calls
  write_then_read_done tokens buffer room o p w z r l =
      write_read_done tokens buffer room o p (is.writes tokens buffer o w) z (is.reads _ room p r) l

  -- a translation by the calls is one by the paper's
  pub by_paper : (s : Schema) (table : List ℕ) → Translated calls s table → Translated papers s table
  by_paper s table t = record {
    file = t.file;
    lent = t.lent;
    left = t.left;
    bytes = t.bytes;
    reads = t.reads;
    translates = is.translates t.file t.lent (0, table) t.translates;
  }

  pub check_by_expressions : promised.CheckByExpressions calls
  check_by_expressions s table t buffer used counts o c =
      by_table.check_judged s table (by_paper s table t) buffer used counts o (is.checks table buffer used counts o c)

  pub check_valid : promised.CheckValid calls
  check_valid s table t buffer used counts o c =
      rw (check_by_expressions s table t buffer used counts o c) (valid_iff s table (by_paper s table t) buffer used)

  pub check_points : promised.CheckPoints calls
  check_points s table t buffer used counts o c = pointing.check_points s buffer used o.0 (check_by_expressions s table t buffer used counts o c)

  pub edit_points : promised.EditPoints calls
  edit_points s table t buffer used q second counts o p n =
      pointing.edit_points s buffer used q second counts o n
      (is.performs table buffer used q second counts o p ∙ by_table.edit_judged s table (by_paper s table t) buffer used q second counts)

  pub edit_leaves : promised.EditLeaves calls
  edit_leaves table buffer used q second counts o p = always.edit_leaves table buffer used q second counts o (is.performs table buffer used q second counts o p)

  pub edit_on_tree : promised.EditIsTreeEdit calls
  edit_on_tree table buffer used q second counts o p = on_tree.edit_on_tree table buffer used q second counts o (is.performs table buffer used q second counts o p)

  -- ---- demand 3

  pub translate_length : promised.TranslateLength calls
  translate_length file table o t = by_file.translate_length file table o (is.translates file table o t)

  pub translate_done : promised.TranslateDone calls
  translate_done file table o t = by_file.translate_done file table o (is.translates file table o t)

  pub translate_ambiguous : promised.TranslateAmbiguous calls
  translate_ambiguous file table o t = by_file.translate_ambiguous file table o (is.translates file table o t)

  pub translate_else : promised.TranslateElse calls
  translate_else file table o t = by_file.translate_else file table o (is.translates file table o t)

  pub table_proper : promised.TableProper calls
  table_proper s table t = by_table.table_proper s table (by_paper s table t)

  pub table_reads : promised.TableReads calls
  table_reads s table t = by_table.table_reads s table (by_paper s table t)

  -- a run of the calls is one of the paper's
  pub runs_by_paper : (table buffer : List ℕ) (used : ℕ) (counts : List ℤ) (l : List Step) → Runs calls table buffer used counts l → Runs papers table buffer used counts l
  runs_by_paper table buffer used counts [] r = tt
  runs_by_paper table buffer used counts (x ∷ l) (p, r) =
      (is.performs table buffer used x.asked x.lent counts x.came p, runs_by_paper table x.came.buffer x.came.used x.came.counts l r)

  pub demand_3 : promised.Demand3 calls
  demand_3 s table t buffer used v counts c l r =
      let u = by_paper s table t in
      run_right s (valid_iff s table u) table u buffer used v counts c l (runs_by_paper table buffer used counts l r)

  -- ---- item 10

  pub edit_cost_bounded : cost.EditCostBounded calls
  edit_cost_bounded table buffer used q second counts o p = costing.bounded table buffer used q second counts o (is.performs table buffer used q second counts o p)

  -- ---- item 12

  pub compare_determinate : inclusion.CompareDeterminate calls
  compare_determinate i o p a b = compared.determinate i o p (is.compares _ _ _ _ o a) (is.compares _ _ _ _ p b)

  pub compare_answers_lem : inclusion.CompareAnswers calls
  compare_answers_lem old new e buffer o c = compare.compare_answers_lem old new e buffer o (is.compares old new e buffer o c)

  pub compare_keeps : inclusion.CompareKeeps calls
  compare_keeps old new e buffer o c = compared.keeps old new e buffer o (is.compares old new e buffer o c)

  pub compare_order : inclusion.CompareOrder calls
  compare_order old new e buffer o c = compared.order old new e buffer o (is.compares old new e buffer o c)

  pub compare_tells : inclusion.CompareTells calls
  compare_tells old new e buffer o c = compared.tells old new e buffer o (is.compares old new e buffer o c)

  pub compare_by_expressions : inclusion.CompareByExpressions calls
  compare_by_expressions s t old new a b e buffer o c =
      compared.by_expressions s t old new (by_paper s old a) (by_paper t new b) e buffer o (is.compares old new e buffer o c)

  pub compare_means : inclusion.CompareMeans calls
  compare_means s t old new a b e buffer o c =
      compared.means s t old new (by_paper s old a) (by_paper t new b) e buffer o (is.compares old new e buffer o c)
