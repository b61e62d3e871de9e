-- `program::put_schema` meets its contract: a stop, or the document's lines by a table that reads as the schema. Assumes nothing.
use native.Mathlib.Omega.{arith}
use mathlib.Core.Path.{refl}
use borrow.Author.Rules.{rules}
use Rattle.program.specs.Stages.{refusal_some, schema_stop, schema_ends, schema_proper, schema_goes}
use Rattle.program.proofs.put_schema.Goals as goal

pub put_due_stop-requires : goal.put_due_stop-requires
put_due_stop-requires c =
    (schema_stop c.args.schema.now _ (search rules) c.in-Err.ensures (refusal_some _), omega (arith, c.requires.1))

pub returns-in-Err : goal.returns-in-Err
returns-in-Err c =
    schema_ends c.args.schema.now _ (search rules) c.in-Err.ensures (refusal_some _) c.args.doc.now c.args.edits.now c.put_due_stop.ensures

pub put_document-requires : goal.put_document-requires
put_document-requires c = (schema_proper c.args.schema.now _ (search rules) c.in-Ok.ensures refl, c.requires.0, c.requires.1)

pub returns-in-Ok : goal.returns-in-Ok
returns-in-Ok c =
    schema_goes c.args.schema.now _ (search rules) c.in-Ok.ensures refl c.args.doc.now c.args.edits.now c.put_document.ensures
