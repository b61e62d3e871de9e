-- What holds of every outcome of the paper's calls, whatever the input: two are equal; a refusal leaves everything lent as it was; a
-- done edit leaves the edited document. Assumes nothing.
use Rattle.std.specs.Prelude.{◌≡◌, refl, ◌≢◌, Bool, cond, List, ℕ, zero, suc, eqb, ℤ, pos, ◌-ℤ◌, length, take}
use Rattle.std.proofs.Common.{sym, subst, ◌∙◌, arith}
use Rattle.std.proofs.Math.Bool.{true, false}
use Rattle.std.proofs.lemmas.Bool.{eqb-false}
use Rattle.paper.specs.Files.{Result, refused, made, Counted, counted, reading, writing, read, write}
use Rattle.paper.specs.Schema.{Schema, Parsed, stop, ok, schema_of}
use Rattle.paper.specs.Table.{table_length, translated, translate, proper}
use Rattle.paper.specs.Shape.{shape_of}
use Rattle.paper.specs.Rules.{Rules, of_table}
use Rattle.paper.specs.Judgement.{Answer, judge}
use Rattle.paper.specs.Edits.{Request, Outcome, Edited, refused as rejected, done, outcome, Made, made as paper-made, touched_by, limit_fault, answered, editing, edit_by, written, edit}
use Rattle.paper.specs.Tokens.{toks}
use Rattle.paper.specs.Back.{noted}
use Rattle.paper.specs.Dtd.Numbering.{names_of}
use Rattle.paper.specs.Dtd.Imported.{declared, worded, schema_file, import, names}
use Rattle.promises.specs.Calls.{papers}
use Rattle.promises.specs.Right.{Kept, Left}
use Rattle.promises.specs.Statements.{ReadDeterminate, WriteDeterminate, TranslateDeterminate, CheckDeterminate, EditDeterminate, ReadKeeps, WriteKeeps, TranslateKeeps, EditKeeps, EditLeaves}
use Rattle.promises.specs.Dtd.{ImportKeeps, NamesKeeps}

-- ---- one outcome for one input

pub read_determinate : ReadDeterminate papers
read_determinate i o p a b = a ∙ sym b

pub write_determinate : WriteDeterminate papers
write_determinate i o p a b = a ∙ sym b

pub translate_determinate : TranslateDeterminate papers
translate_determinate i o p a b = a ∙ sym b

pub check_determinate : CheckDeterminate papers
check_determinate i o p a b = a ∙ sym b

pub edit_determinate : EditDeterminate papers
edit_determinate i o p a b = a ∙ sym b

-- ---- refusals

counted_keeps : (r : Result) (buffer : List ℕ) (o : Counted) → o ≡ counted r buffer → o.number ≢ 0 → (o.count ≡ 0) × (o.buffer ≡ buffer)
counted_keeps (refused k) buffer o e n = (cc, cc)
counted_keeps (made l) buffer o e n = absurd (n (cc))

pub read_keeps : ReadKeeps papers
unfolding read
read_keeps file buffer o e n = counted_keeps (reading file buffer) buffer o e n

pub write_keeps : WriteKeeps papers
unfolding write
write_keeps tokens buffer o e n = counted_keeps (writing tokens buffer) buffer o e n

pub import_keeps : ImportKeeps papers
unfolding import
import_keeps text buffer o e n = counted_keeps (worded schema_file (declared text) buffer) buffer o e n

pub names_keeps : NamesKeeps papers
unfolding names
names_keeps text buffer o e n = counted_keeps (worded names_of (declared text) buffer) buffer o e n

pub translate_keeps : TranslateKeeps papers
unfolding translate
translate_keeps file table o e n = by_length (eqb (length table) table_length) e
  where
    by_file : (p : Parsed Schema) → o ≡ translated p table → o.1 ≡ table
    by_file (stop k) e = cc
    by_file (ok s r) e = absurd (n (cc))

    by_length : (b : Bool) → o ≡ cond b (translated (schema_of file) table) (13, table) → o.1 ≡ table
    by_length true e = by_file (schema_of file) e
    by_length false e = cc

-- ---- an edit: a refusal has a number that is not 0, and what is done is the edited document

abbrev Settled : (m : Made) → Edited → Type 0
Settled m (rejected n p) = n ≢ 0
Settled m (done x) = x ≡ m

answered_settled : (n : ℕ) (a : Answer) (m : Made) → Settled m (answered n a m)
answered_settled zero a m = go (eqb a.0 0) refl
  where
    go : (b : Bool) → eqb a.0 0 ≡ b → Settled m (cond b (done m) (rejected a.0 a.1))
    go true e = refl
    go false e = eqb-false a.0 0 e
answered_settled (suc n) a m = λ z. absurd (omega arith)

module _ (table buffer : List ℕ) (used : ℕ) (q : Request) (second : List ℕ) (counts : List ℤ) where
  abbrev new : Rules → Made
  new R = paper-made R.elements q (take used buffer) counts

  by_shape : (R : Rules) (b : Bool) → Settled (new R) (cond b (editing R (length buffer) (length second) q (take used buffer) counts) (rejected 4 0))
  unfolding editing
  by_shape R true = answered_settled (limit_fault R.elements (length buffer) (length second) q (take used buffer) counts)
      (judge R (touched_by q (take used buffer)) (toks (new R).tokens)) (new R)
  by_shape R false = λ z. absurd (omega arith)

  by_table : (b : Bool) → Settled (new (of_table table)) (cond b (edit_by (of_table table) buffer used q second counts) (rejected 13 0))
  unfolding edit_by
  by_table true = by_shape (of_table table) (shape_of buffer used)
  by_table false = λ z. absurd (omega arith)

  outcome_keeps : (x : Edited) → Settled (new (of_table table)) x → (o : Outcome) → o ≡ outcome buffer used second counts x → o.number ≢ 0 → Kept buffer used second counts o
  outcome_keeps (rejected n p) s o e d = (cc, cc, cc, cc, cc, cc)
  outcome_keeps (done m) s o e d = absurd (d (cc))

  outcome_leaves : (x : Edited) → Settled (new (of_table table)) x → (o : Outcome) → o ≡ outcome buffer used second counts x → o.number ≡ 0 → Left (of_table table).elements buffer used q second counts o
  outcome_leaves (rejected n p) s o e z = absurd (s (cc))
  outcome_leaves (done m) s o e z =
      subst
      (λ (x : Made). (o.place ≡ 0) × (o.used ≡ length x.tokens) × (o.change ≡ pos (length x.tokens) -ℤ pos used) × (o.buffer ≡ written buffer used x.tokens)
      × (o.children ≡ x.children) × (o.back ≡ noted second x.back) × (o.counts ≡ x.counts))
      s (cc, cc, cc, cc, cc, cc, cc)

pub edit_keeps : EditKeeps papers
unfolding edit
edit_keeps table buffer used q second counts o e d =
    outcome_keeps table buffer used q second counts (cond (proper table) (edit_by (of_table table) buffer used q second counts) (rejected 13 0))
    (by_table table buffer used q second counts (proper table)) o e d

pub edit_leaves : EditLeaves papers
unfolding edit
edit_leaves table buffer used q second counts o e z =
    outcome_leaves table buffer used q second counts (cond (proper table) (edit_by (of_table table) buffer used q second counts) (rejected 13 0))
    (by_table table buffer used q second counts (proper table)) o e z
