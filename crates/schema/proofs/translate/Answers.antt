-- `schema::translate` meets its contract: one law for each way out. Assumes nothing.
use native.Mathlib.Omega.{arith}
use borrow.Author.Rules.{rules}
use Rattle.reading.specs.Ended.{handed}
use Rattle.schema.specs.Whole.{translate_length, translate_fault, translate_done}
use Rattle.schema.proofs.translate.Goals as goal

pub returns-then-table-ne-TABLE_WORDS : goal.returns-then-table-ne-TABLE_WORDS
returns-then-table-ne-TABLE_WORDS c = search translate_length

pub returns-in_err-put_schema : goal.returns-in_err-put_schema
returns-in_err-put_schema c =
    rw (handed c.from_residual.ensures.1) (translate_fault c.args.file.now c.args.table.now c.if-table-ne-TABLE_WORDS.false c.in_err-put_schema.ensures)

pub returns : goal.returns
returns c = search (translate_done, c.in_ok-put_schema.ensures, rules)
