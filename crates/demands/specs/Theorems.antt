-- The demands, of any outcomes that the contracts of the library's calls allow: those that a host links and runs. A line for each
-- promise. Assumes nothing.
use Rattle.promises.specs.Statements as promised
use Rattle.promises.specs.Undo as undo
use Rattle.promises.specs.Dtd as dtd
use Rattle.promises.specs.Lists as lists
use Rattle.promises.specs.Groups as groups
use Rattle.promises.specs.Inclusion as inclusion
use Rattle.promises.specs.Cost as cost
use Rattle.promises.proofs.Theorems as proved
use Rattle.promises.proofs.UndoTheorems as undone
use Rattle.promises.proofs.ListTheorems as listed
use Rattle.promises.specs.Counts as counts
use Rattle.promises.proofs.CountTheorems as counted
use Rattle.promises.proofs.GroupTheorems as grouped
use Rattle.promises.proofs.DtdTheorems as texts
use Rattle.demands.specs.Shrikes.{shrikes, faithful}

-- ---- every call

pub read_determinate : promised.ReadDeterminate shrikes
read_determinate = proved.read_determinate shrikes faithful

pub write_determinate : promised.WriteDeterminate shrikes
write_determinate = proved.write_determinate shrikes faithful

pub translate_determinate : promised.TranslateDeterminate shrikes
translate_determinate = proved.translate_determinate shrikes faithful

pub check_determinate : promised.CheckDeterminate shrikes
check_determinate = proved.check_determinate shrikes faithful

pub edit_determinate : promised.EditDeterminate shrikes
edit_determinate = proved.edit_determinate shrikes faithful

-- ---- demand 1

pub read_answers : promised.ReadAnswers shrikes
read_answers = proved.read_answers shrikes faithful

pub write_answers : promised.WriteAnswers shrikes
write_answers = proved.write_answers shrikes faithful

pub translate_answers : promised.TranslateAnswers shrikes
translate_answers = proved.translate_answers shrikes faithful

pub check_answers_lem : promised.CheckAnswers shrikes
check_answers_lem = proved.check_answers_lem shrikes faithful

pub check_never_7 : promised.CheckNever7 shrikes
check_never_7 = proved.check_never_7 shrikes faithful

pub edit_answers_lem : promised.EditAnswers shrikes
edit_answers_lem = proved.edit_answers_lem shrikes faithful

pub read_keeps : promised.ReadKeeps shrikes
read_keeps = proved.read_keeps shrikes faithful

pub write_keeps : promised.WriteKeeps shrikes
write_keeps = proved.write_keeps shrikes faithful

pub translate_keeps : promised.TranslateKeeps shrikes
translate_keeps = proved.translate_keeps shrikes faithful

pub edit_keeps : promised.EditKeeps shrikes
edit_keeps = proved.edit_keeps shrikes faithful

-- ---- demand 2

pub read_then_write : promised.ReadThenWrite shrikes
read_then_write = proved.read_then_write shrikes faithful

pub write_then_read : promised.WriteThenRead shrikes
write_then_read = proved.write_then_read shrikes faithful

pub read_then_write_done : promised.ReadThenWriteDone shrikes
read_then_write_done = proved.read_then_write_done shrikes faithful

pub write_then_read_done : promised.WriteThenReadDone shrikes
write_then_read_done = proved.write_then_read_done shrikes faithful

pub check_by_expressions : promised.CheckByExpressions shrikes
check_by_expressions = proved.check_by_expressions shrikes faithful

pub check_valid : promised.CheckValid shrikes
check_valid = proved.check_valid shrikes faithful

pub check_points : promised.CheckPoints shrikes
check_points = proved.check_points shrikes faithful

pub edit_points : promised.EditPoints shrikes
edit_points = proved.edit_points shrikes faithful

pub edit_leaves : promised.EditLeaves shrikes
edit_leaves = proved.edit_leaves shrikes faithful

pub edit_on_tree : promised.EditIsTreeEdit shrikes
edit_on_tree = proved.edit_on_tree shrikes faithful

-- ---- demand 3

pub translate_length : promised.TranslateLength shrikes
translate_length = proved.translate_length shrikes faithful

pub translate_done : promised.TranslateDone shrikes
translate_done = proved.translate_done shrikes faithful

pub translate_ambiguous : promised.TranslateAmbiguous shrikes
translate_ambiguous = proved.translate_ambiguous shrikes faithful

pub translate_else : promised.TranslateElse shrikes
translate_else = proved.translate_else shrikes faithful

pub table_proper : promised.TableProper shrikes
table_proper = proved.table_proper shrikes faithful

pub table_reads : promised.TableReads shrikes
table_reads = proved.table_reads shrikes faithful

pub demand_3 : promised.Demand3 shrikes
demand_3 = proved.demand_3 shrikes faithful

-- ---- item 2

pub edit_second : undo.EditSecond shrikes
edit_second = undone.edit_second shrikes faithful

pub back_reads : undo.BackReads shrikes
back_reads = undone.back_reads shrikes faithful

pub undo_done : undo.UndoDone shrikes
undo_done = undone.undo_done shrikes faithful

pub redo_done : undo.RedoDone shrikes
redo_done = undone.redo_done shrikes faithful

pub run_back : undo.RunBack shrikes
run_back = undone.run_back shrikes faithful

-- ---- item 4

pub import_determinate : dtd.ImportDeterminate shrikes
import_determinate = texts.import_determinate shrikes faithful

pub names_determinate : dtd.NamesDeterminate shrikes
names_determinate = texts.names_determinate shrikes faithful

pub spot_determinate : dtd.SpotDeterminate shrikes
spot_determinate = texts.spot_determinate shrikes faithful

pub import_answers_lem : dtd.ImportAnswers shrikes
import_answers_lem = texts.import_answers_lem shrikes faithful

pub names_answers_lem : dtd.NamesAnswers shrikes
names_answers_lem = texts.names_answers_lem shrikes faithful

pub spot_answers_lem : dtd.SpotAnswers shrikes
spot_answers_lem = texts.spot_answers_lem shrikes faithful

pub import_keeps : dtd.ImportKeeps shrikes
import_keeps = texts.import_keeps shrikes faithful

pub names_keeps : dtd.NamesKeeps shrikes
names_keeps = texts.names_keeps shrikes faithful

pub import_turns : dtd.ImportTurns shrikes
import_turns = texts.import_turns shrikes faithful

pub names_turn : dtd.NamesTurn shrikes
names_turn = texts.names_turn shrikes faithful

pub spot_tells : dtd.SpotTells shrikes
spot_tells = texts.spot_tells shrikes faithful

pub spot_agrees : dtd.SpotAgrees shrikes
spot_agrees = texts.spot_agrees shrikes faithful

pub fault_stays : dtd.FaultStays shrikes
fault_stays = texts.fault_stays shrikes faithful

pub import_then_translate : dtd.ImportThenTranslate shrikes
import_then_translate = texts.import_then_translate shrikes faithful

pub imported_is_translated : dtd.ImportedIsTranslated shrikes
imported_is_translated = texts.imported_is_translated shrikes faithful

pub check_by_text : dtd.CheckByText shrikes
check_by_text = texts.check_by_text shrikes faithful

pub demand_3_by_text : dtd.Demand3ByText shrikes
demand_3_by_text = texts.demand_3_by_text shrikes faithful

-- ---- item 6

pub list_determinate : lists.ListDeterminate shrikes
list_determinate = listed.list_determinate shrikes faithful

pub list_answers_lem : lists.ListAnswers shrikes
list_answers_lem = listed.list_answers_lem shrikes faithful

pub list_faults : lists.ListFaults shrikes
list_faults = listed.list_faults shrikes faithful

pub list_is_singles : lists.ListIsSingles shrikes
list_is_singles = listed.list_is_singles shrikes faithful

pub list_stands : lists.ListStands shrikes
list_stands = listed.list_stands shrikes faithful

pub list_right : lists.ListRight shrikes
list_right = listed.list_right shrikes faithful

-- ---- item 9

pub group_determinate : groups.GroupDeterminate shrikes
group_determinate = grouped.group_determinate shrikes faithful

pub group_answers_lem : groups.GroupAnswers shrikes
group_answers_lem = grouped.group_answers_lem shrikes faithful

pub group_order : groups.GroupOrder shrikes
group_order = grouped.group_order shrikes faithful

pub group_keeps : groups.GroupKeeps shrikes
group_keeps = grouped.group_keeps shrikes faithful

pub group_second : groups.GroupSecond shrikes
group_second = grouped.group_second shrikes faithful

pub group_lengths : groups.GroupLengths shrikes
group_lengths = grouped.group_lengths shrikes faithful

pub group_demand_3 : groups.GroupDemand3 shrikes
group_demand_3 = grouped.group_demand_3 shrikes faithful

pub group_then_run : groups.GroupThenRun shrikes
group_then_run = grouped.group_then_run shrikes faithful

pub group_of_one : groups.GroupOfOne shrikes
group_of_one = grouped.group_of_one shrikes faithful

-- ---- item 10

pub edit_cost_bounded : cost.EditCostBounded shrikes
edit_cost_bounded = proved.edit_cost_bounded shrikes faithful

-- ---- item 12

pub compare_determinate : inclusion.CompareDeterminate shrikes
compare_determinate = proved.compare_determinate shrikes faithful

pub compare_answers_lem : inclusion.CompareAnswers shrikes
compare_answers_lem = proved.compare_answers_lem shrikes faithful

pub compare_keeps : inclusion.CompareKeeps shrikes
compare_keeps = proved.compare_keeps shrikes faithful

pub compare_order : inclusion.CompareOrder shrikes
compare_order = proved.compare_order shrikes faithful

pub compare_tells : inclusion.CompareTells shrikes
compare_tells = proved.compare_tells shrikes faithful

pub compare_by_expressions : inclusion.CompareByExpressions shrikes
compare_by_expressions = proved.compare_by_expressions shrikes faithful

pub compare_means : inclusion.CompareMeans shrikes
compare_means = proved.compare_means shrikes faithful

-- ---- item 7

pub edit_true : counts.EditTrue shrikes
edit_true = counted.edit_true shrikes faithful

pub list_true : counts.ListTrue shrikes
list_true = counted.list_true shrikes faithful

pub edit_fifteen : counts.EditFifteen shrikes
edit_fifteen = counted.edit_fifteen shrikes faithful

pub edit_never_15 : counts.EditNever15 shrikes
edit_never_15 = counted.edit_never_15 shrikes faithful

pub check_writes : counts.CheckWrites shrikes
check_writes = counted.check_writes shrikes faithful

pub tell_determinate : counts.TellDeterminate shrikes
tell_determinate = counted.tell_determinate shrikes faithful

pub tell_answers : counts.TellAnswers shrikes
tell_answers = counted.tell_answers shrikes faithful

pub tells_tree : counts.TellsTree shrikes
tells_tree = counted.tells_tree shrikes faithful
