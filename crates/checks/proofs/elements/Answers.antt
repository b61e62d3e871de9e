-- `checks::elements` meets its contract. Assumes nothing.
use mathlib.Core.Bool.{not}
use mathlib.Core.Path.{ap}
use native.Mathlib.Omega.{arith}
use Rattle.checks.specs.Checked.{question_table, question_counts, question_first, question_above, question_within, question_answer}
use Rattle.checks.proofs.elements.Goals as goal

pub returns-then-not-proper : goal.returns-then-not-proper
returns-then-not-proper c = search question_table

pub returns-in_default : goal.returns-in_default
returns-in_default c = question_counts c.args.table.now c.args.counts.now c.args.name c.proper.ensures (ap not c.if-not-proper.false) c.in_default.ensures

pub bounds-table-0 : goal.bounds-table-0
bounds-table-0 c = search question_first

pub returns-then-name-table : goal.returns-then-name-table
returns-then-name-table c =
    question_above c.args.table.now c.args.counts.now c.args.name c.proper.ensures (ap not c.if-not-proper.false) c.in-Some.now c.in-Some.ensures (omega arith)

pub bounds-now-name : goal.bounds-now-name
bounds-now-name c =
    question_within c.args.table.now c.args.counts.now c.args.name c.proper.ensures (ap not c.if-not-proper.false) c.in-Some.now c.in-Some.ensures (omega arith)

pub returns : goal.returns
returns c =
    question_answer c.args.table.now c.args.counts.now c.args.name c.proper.ensures (ap not c.if-not-proper.false) c.in-Some.now c.in-Some.ensures (omega arith)
