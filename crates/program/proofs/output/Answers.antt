-- `program::output` meets its contract: a stop, or the schema's lines. Assumes nothing.
use native.Mathlib.Omega.{arith}
use borrow.Author.Rules.{rules}
use Rattle.program.specs.Stages.{not_opened, too_long, all_read, edits_short}
use Rattle.program.proofs.output.Goals as goal

pub put_due_stop-requires : goal.put_due_stop-requires
put_due_stop-requires c =
    omega (arith, c.put_due_stop-arg-1.given.0.1)

pub returns-then-not-opened : goal.returns-then-not-opened
returns-then-not-opened c =
    let a = c.args in
    not_opened a.opened _ _ _ (search rules) c.put_due_stop.ensures

pub put_due_stop-requires-then-not-short : goal.put_due_stop-requires-then-not-short
put_due_stop-requires-then-not-short c =
    omega (arith, c.put_due_stop-arg-then-not-short-1.given.0.1)

pub returns-then-not-short : goal.returns-then-not-short
returns-then-not-short c =
    let a = c.args in
    too_long a.opened _ _ _ _ (search rules) c.short.ensures (search rules) c.put_due_stop-then-not-short.ensures

pub put_schema-requires : goal.put_schema-requires
put_schema-requires c =
    let a = c.args in
    (edits_short a.opened a.schema.now a.doc.now a.edits.now _ (search rules) c.short.ensures (search rules), c.put_schema-arg-1.given.0.1)

pub returns : goal.returns
returns c =
    let a = c.args in
    all_read a.opened _ _ _ _ (search rules) c.short.ensures (search rules) c.put_schema.ensures
