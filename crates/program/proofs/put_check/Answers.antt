-- `program::put_check` meets its contract: the check's line alone, or the edits' after it. Assumes nothing.
use mathlib.Core.Path.{◌∙◌, refl}
use native.Mathlib.Omega.{arith}
use borrow.Author.Rules.{rules}
use Rattle.lines.specs.Put.{put_length}
use Rattle.paper_laws.specs.Codes.{refused}
use Rattle.program.specs.Stages.{check_ends, check_goes}
use Rattle.program.proofs.put_check.Goals as goal

pub put_line-requires : goal.put_line-requires
put_line-requires c = (omega arith, omega (arith, c.requires.2))

pub returns-in-Err : goal.returns-in-Err
returns-in-Err c =
    check_ends c.args.table.now c.args.doc.now c.args.used c.args.file.now c.requires.0 c.args.counts.now c.in-Err.ensures
    (rw c.number.ensures at c.put_line.ensures.put) (refused c.in-Err.fault.refusal)

pub put_line-next-requires : goal.put_line-next-requires
put_line-next-requires c = (omega arith, omega (arith, c.requires.2))

pub put_edits-requires : goal.put_edits-requires
put_edits-requires c =
    let p = c.put_line-next.ensures in
    (c.requires.0, c.requires.1, put_length p.put ∙ c.requires.2, omega (arith, p.upper_bound))

pub returns-in-Ok : goal.returns-in-Ok
returns-in-Ok c =
    check_goes c.args.table.now c.args.doc.now c.args.used c.args.file.now c.requires.0 c.args.counts.now c.in-Ok.ensures c.put_line-next.ensures.put refl c.put_edits.ensures
