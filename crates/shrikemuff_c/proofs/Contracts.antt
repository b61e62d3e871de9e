-- The contracts of the exported calls, as they stand. Each asks nothing of a caller, and allows no outcome but the paper's. Assumes nothing.
use mathlib.Core.List.{List}
use Prim.Native.Nat.{ℕ}
use lib.IntN.{ℤ}
use Rattle.paper.specs.Files.{Counted}
use Rattle.paper.specs.Judgement.{Answer}
use Rattle.paper.specs.Edits.{Request, Outcome}
use Rattle.paper.specs.Lists.{Listed}
use Rattle.paper.specs.Groups.{GroupOutcome}
use Rattle.paper.specs.Inclusion.{Compared}
use Rattle.paper.specs.Dtd.Imported.{Spot}
use Rattle.paper.specs.Calls.{Reads, Writes, Translates, Checks, Performs, Tells, PerformsList, PerformsGroup, Compares, Imports, Names, Spots}
use Rattle.contracts.specs.{Call, TakesAll, Allows, allowed}
use Rattle.docfile.specs.Outcome.{outcome as counted}
use Rattle.compare.specs.Outcome.{outcome_of as compared}
use Rattle.shrikemuff.specs.Outcomes.{edited, listed, grouped, spotted}
use Rattle.shrikemuff_c.proofs.shrike_read.Kinds as read-kinds
use Rattle.shrikemuff_c.proofs.shrike_read.Reads as read
use Rattle.shrikemuff_c.proofs.shrike_write.Kinds as write-kinds
use Rattle.shrikemuff_c.proofs.shrike_write.Reads as write
use Rattle.shrikemuff_c.proofs.shrike_translate.Kinds as translate-kinds
use Rattle.shrikemuff_c.proofs.shrike_translate.Reads as translate
use Rattle.shrikemuff_c.proofs.shrike_check.Kinds as check-kinds
use Rattle.shrikemuff_c.proofs.shrike_check.Reads as check
use Rattle.shrikemuff_c.proofs.shrike_edit.Kinds as edit-kinds
use Rattle.shrikemuff_c.proofs.shrike_edit.Reads as edit
use Rattle.shrikemuff_c.proofs.shrike_elements.Kinds as elements-kinds
use Rattle.shrikemuff_c.proofs.shrike_elements.Reads as elements
use Rattle.shrikemuff_c.proofs.shrike_list.Kinds as list-kinds
use Rattle.shrikemuff_c.proofs.shrike_list.Reads as list
use Rattle.shrikemuff_c.proofs.shrike_group.Kinds as group-kinds
use Rattle.shrikemuff_c.proofs.shrike_group.Reads as group
use Rattle.shrikemuff_c.proofs.shrike_compare.Kinds as compare-kinds
use Rattle.shrikemuff_c.proofs.shrike_compare.Reads as compare
use Rattle.shrikemuff_c.proofs.shrike_import.Kinds as import-kinds
use Rattle.shrikemuff_c.proofs.shrike_import.Reads as import
use Rattle.shrikemuff_c.proofs.shrike_names.Kinds as names-kinds
use Rattle.shrikemuff_c.proofs.shrike_names.Reads as names
use Rattle.shrikemuff_c.proofs.shrike_import_spot.Kinds as spot-kinds
use Rattle.shrikemuff_c.proofs.shrike_import_spot.Reads as spot

-- ---- the reader: file and buffer

abbrev pub shrike_read : Call (List ℕ × List ℕ) Counted
shrike_read = record {
  lifetimes = 2;
  ps = read-kinds.ps;
  r = read-kinds.r;
  Asked = read.Asked;
  Learnt = read.Learnt;
  input = λ κs given. (given.0.now, given.1.0.now);
  outcome = λ κs result after. counted result after.1.0.now;
}

pub read_takes_all : TakesAll shrike_read
read_takes_all κs given = tt

pub reads : (i : List ℕ × List ℕ) (o : Counted) → Allows shrike_read i o → Reads i.0 i.1 o
reads = allowed shrike_read (λ i o. Reads i.0 i.1 o) (λ κs given result after told. told)

-- ---- the writer: tokens and buffer

abbrev pub shrike_write : Call (List ℕ × List ℕ) Counted
shrike_write = record {
  lifetimes = 2;
  ps = write-kinds.ps;
  r = write-kinds.r;
  Asked = write.Asked;
  Learnt = write.Learnt;
  input = λ κs given. (given.0.now, given.1.0.now);
  outcome = λ κs result after. counted result after.1.0.now;
}

pub write_takes_all : TakesAll shrike_write
write_takes_all κs given = tt

pub writes : (i : List ℕ × List ℕ) (o : Counted) → Allows shrike_write i o → Writes i.0 i.1 o
writes = allowed shrike_write (λ i o. Writes i.0 i.1 o) (λ κs given result after told. told)

-- ---- the translator: file and table

abbrev pub shrike_translate : Call (List ℕ × List ℕ) (ℕ × List ℕ)
shrike_translate = record {
  lifetimes = 2;
  ps = translate-kinds.ps;
  r = translate-kinds.r;
  Asked = translate.Asked;
  Learnt = translate.Learnt;
  input = λ κs given. (given.0.now, given.1.0.now);
  outcome = λ κs result after. (result, after.1.0.now);
}

pub translate_takes_all : TakesAll shrike_translate
translate_takes_all κs given = tt

pub translates : (i : List ℕ × List ℕ) (o : ℕ × List ℕ) → Allows shrike_translate i o → Translates i.0 i.1 o
translates = allowed shrike_translate (λ i o. Translates i.0 i.1 o) (λ κs given result after told. told)

-- ---- the check: table, buffer, used length and counts

abbrev pub shrike_check : Call (List ℕ × List ℕ × ℕ × List ℤ) (Answer × List ℤ)
shrike_check = record {
  lifetimes = 3;
  ps = check-kinds.ps;
  r = check-kinds.r;
  Asked = check.Asked;
  Learnt = check.Learnt;
  input = λ κs given. (given.0.now, given.1.0.now, given.1.1.0, given.1.1.1.0.now);
  outcome = λ κs result after. ((result.number, result.place), after.1.1.1.0.now);
}

pub check_takes_all : TakesAll shrike_check
check_takes_all κs given = tt

pub checks : (i : List ℕ × List ℕ × ℕ × List ℤ) (o : Answer × List ℤ) → Allows shrike_check i o → Checks i.0 i.1 i.2 i.3 o
checks = allowed shrike_check (λ i o. Checks i.0 i.1 i.2 i.3 o) (λ κs given result after told. told)

-- ---- the edit: table, buffer, used length, request, second buffer and counts

abbrev pub shrike_edit : Call (List ℕ × List ℕ × ℕ × Request × List ℕ × List ℤ) Outcome
shrike_edit = record {
  lifetimes = 5;
  ps = edit-kinds.ps;
  r = edit-kinds.r;
  Asked = edit.Asked;
  Learnt = edit.Learnt;
  input = λ κs given. (
    given.0.now,
    given.1.0.now,
    given.1.1.0,
    record { operation = given.1.1.1.0; place = given.1.1.1.1.0; piece = given.1.1.1.1.1.0.now },
    given.1.1.1.1.1.1.0.now,
    given.1.1.1.1.1.1.1.0.now,
  );
  outcome = λ κs result after. edited result after.1.0.now after.1.1.1.1.1.1.0.now after.1.1.1.1.1.1.1.0.now;
}

pub edit_takes_all : TakesAll shrike_edit
edit_takes_all κs given = tt

pub performs : (i : List ℕ × List ℕ × ℕ × Request × List ℕ × List ℤ) (o : Outcome) → Allows shrike_edit i o → Performs i.0 i.1 i.2 i.3 i.4 i.5 o
performs = allowed shrike_edit (λ i o. Performs i.0 i.1 i.2 i.3 i.4 i.5 o) (λ κs given result after told. told)

-- ---- the question: table, counts and name

abbrev pub shrike_elements : Call (List ℕ × List ℤ × ℕ) (ℕ × ℕ)
shrike_elements = record {
  lifetimes = 2;
  ps = elements-kinds.ps;
  r = elements-kinds.r;
  Asked = elements.Asked;
  Learnt = elements.Learnt;
  input = λ κs given. (given.0.now, given.1.0.now, given.1.1.0);
  outcome = λ κs result after. (result.number, result.count);
}

pub elements_takes_all : TakesAll shrike_elements
elements_takes_all κs given = tt

pub tells : (i : List ℕ × List ℤ × ℕ) (o : ℕ × ℕ) → Allows shrike_elements i o → Tells i.0 i.1 i.2 o
tells = allowed shrike_elements (λ i o. Tells i.0 i.1 i.2 o) (λ κs given result after told. told)

-- ---- the list of edits: table, buffer, used length, list and counts

abbrev pub shrike_list : Call (List ℕ × List ℕ × ℕ × List ℕ × List ℤ) (Listed Outcome)
shrike_list = record {
  lifetimes = 4;
  ps = list-kinds.ps;
  r = list-kinds.r;
  Asked = list.Asked;
  Learnt = list.Learnt;
  input = λ κs given. (given.0.now, given.1.0.now, given.1.1.0, given.1.1.1.0.now, given.1.1.1.1.0.now);
  outcome = λ κs result after. listed result after.1.0.now after.1.1.1.1.0.now;
}

pub list_takes_all : TakesAll shrike_list
list_takes_all κs given = tt

pub performs_list : (i : List ℕ × List ℕ × ℕ × List ℕ × List ℤ) (o : Listed Outcome) → Allows shrike_list i o → PerformsList i.0 i.1 i.2 i.3 i.4 o
performs_list = allowed shrike_list (λ i o. PerformsList i.0 i.1 i.2 i.3 i.4 o) (λ κs given result after told. told)

-- ---- the group of edits: table, buffer, used length, list and second buffer

abbrev pub shrike_group : Call (List ℕ × List ℕ × ℕ × List ℕ × List ℕ) GroupOutcome
shrike_group = record {
  lifetimes = 4;
  ps = group-kinds.ps;
  r = group-kinds.r;
  Asked = group.Asked;
  Learnt = group.Learnt;
  input = λ κs given. (given.0.now, given.1.0.now, given.1.1.0, given.1.1.1.0.now, given.1.1.1.1.0.now);
  outcome = λ κs result after. grouped result after.1.0.now after.1.1.1.1.0.now;
}

pub group_takes_all : TakesAll shrike_group
group_takes_all κs given = tt

pub performs_group : (i : List ℕ × List ℕ × ℕ × List ℕ × List ℕ) (o : GroupOutcome) → Allows shrike_group i o → PerformsGroup i.0 i.1 i.2 i.3 i.4 o
performs_group = allowed shrike_group (λ i o. PerformsGroup i.0 i.1 i.2 i.3 i.4 o) (λ κs given result after told. told)

-- ---- the comparison: old table, new table, element and sequence buffer

abbrev pub shrike_compare : Call (List ℕ × List ℕ × ℕ × List ℕ) Compared
shrike_compare = record {
  lifetimes = 3;
  ps = compare-kinds.ps;
  r = compare-kinds.r;
  Asked = compare.Asked;
  Learnt = compare.Learnt;
  input = λ κs given. (given.0.now, given.1.0.now, given.1.1.0, given.1.1.1.0.now);
  outcome = λ κs result after. compared result after.1.1.1.0.now;
}

pub compare_takes_all : TakesAll shrike_compare
compare_takes_all κs given = tt

pub compares : (i : List ℕ × List ℕ × ℕ × List ℕ) (o : Compared) → Allows shrike_compare i o → Compares i.0 i.1 i.2 i.3 o
compares = allowed shrike_compare (λ i o. Compares i.0 i.1 i.2 i.3 o) (λ κs given result after told. told)

-- ---- the importer: text and buffer

abbrev pub shrike_import : Call (List ℕ × List ℕ) Counted
shrike_import = record {
  lifetimes = 2;
  ps = import-kinds.ps;
  r = import-kinds.r;
  Asked = import.Asked;
  Learnt = import.Learnt;
  input = λ κs given. (given.0.now, given.1.0.now);
  outcome = λ κs result after. counted result after.1.0.now;
}

pub import_takes_all : TakesAll shrike_import
import_takes_all κs given = tt

pub imports : (i : List ℕ × List ℕ) (o : Counted) → Allows shrike_import i o → Imports i.0 i.1 o
imports = allowed shrike_import (λ i o. Imports i.0 i.1 o) (λ κs given result after told. told)

-- ---- the names of a text: text and buffer

abbrev pub shrike_names : Call (List ℕ × List ℕ) Counted
shrike_names = record {
  lifetimes = 2;
  ps = names-kinds.ps;
  r = names-kinds.r;
  Asked = names.Asked;
  Learnt = names.Learnt;
  input = λ κs given. (given.0.now, given.1.0.now);
  outcome = λ κs result after. counted result after.1.0.now;
}

pub names_takes_all : TakesAll shrike_names
names_takes_all κs given = tt

pub lists : (i : List ℕ × List ℕ) (o : Counted) → Allows shrike_names i o → Names i.0 i.1 o
lists = allowed shrike_names (λ i o. Names i.0 i.1 o) (λ κs given result after told. told)

-- ---- where a text is refused: text

abbrev pub shrike_import_spot : Call (List ℕ) Spot
shrike_import_spot = record {
  lifetimes = 1;
  ps = spot-kinds.ps;
  r = spot-kinds.r;
  Asked = spot.Asked;
  Learnt = spot.Learnt;
  input = λ κs given. given.0.now;
  outcome = λ κs result after. spotted result;
}

pub spot_takes_all : TakesAll shrike_import_spot
spot_takes_all κs given = tt

pub spots : (i : List ℕ) (o : Spot) → Allows shrike_import_spot i o → Spots i o
spots = allowed shrike_import_spot Spots (λ κs given result after told. told)
