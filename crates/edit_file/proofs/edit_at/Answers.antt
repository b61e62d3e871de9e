-- `edit_file::edit_at` meets its contract: one law for each way out. Assumes nothing.
use Rattle.std.proofs.Common.{◌≡◌, arith, length, take, length-take-le}
use borrow.Author.Rules.{rules}
use Rattle.reading.specs.Ended.{handed}
use Rattle.edit_file.specs.Request.{edit_operation, edit_place, edit_count, edit_over, edit_piece, edit_made}
use Rattle.edit_file.proofs.edit_at.Goals as goal

pub returns-in_err-operation : goal.returns-in_err-operation
returns-in_err-operation c = rw (handed c.from_residual.ensures.1) (edit_operation c.args.file.now c.args.at _ c.in_err-operation.ensures)

pub returns-in_err-place : goal.returns-in_err-place
returns-in_err-place c =
    rw (handed c.from_residual-in_err-place.ensures.1) (edit_place c.args.file.now c.args.at c.in_ok-operation.ensures _ c.in_err-place.ensures)

pub returns-in_err-n : goal.returns-in_err-n
returns-in_err-n c =
    rw (handed c.from_residual-in_err-n.ensures.1)
    (edit_count c.args.file.now c.args.at c.in_ok-operation.ensures c.in_ok-place.ensures _ c.in_err-n.ensures)

pub returns-then-count-gt-MOST_TOKENS : goal.returns-then-count-gt-MOST_TOKENS
returns-then-count-gt-MOST_TOKENS c = search (edit_over c.args.file.now c.args.at c.in_ok-operation.ensures c.in_ok-place.ensures c.in_ok-n.ensures)

pub returns-in_err-next : goal.returns-in_err-next
returns-in_err-next c =
    let k : length (take c.in_ok-n.n.value c.args.piece.now) ≡ c.in_ok-n.n.value = length-take-le _ _ (omega (arith, c.requires)) in
    rw (handed c.from_residual-in_err-next.ensures.1)
    (edit_piece c.args.file.now c.args.at c.in_ok-operation.ensures c.in_ok-place.ensures c.in_ok-n.ensures (omega arith) k _ c.in_err-next.ensures)

pub returns : goal.returns
returns c = search (edit_made c.args.file.now c.args.at c.in_ok-operation.ensures c.in_ok-place.ensures c.in_ok-n.ensures, c.in_ok-next.ensures, rules)
