-- `touched::with_piece` meets its contract. Assumes nothing.
use native.Mathlib.Omega.{arith}
use borrow.Author.Rules.{rules}
use mathlib.Core.Path.{refl, ap}
use Prim.Native.Nat.{◌+◌}
use Rattle.std.proofs.lemmas.Result.{err_from_is_err_and}
use Rattle.touched.specs.Touched.{cut_piece, cut_own, piece_few}
use Rattle.touched.proofs.with_piece.Goals as goal

pub returns-in_err-piece_fault : goal.returns-in_err-piece_fault
returns-in_err-piece_fault c =
    let p = err_from_is_err_and c.from_residual.result c.from_residual.ensures.1 in
    rw (p.1, p.2) (cut_piece c.args.table.now c.args.doc.now c.args.at c.args.coming c.in_err-piece_fault.ensures)

pub overflow_add-children : goal.overflow_add-children
overflow_add-children c =
    omega (arith, piece_few c.args.doc.now c.args.at c.args.coming c.requires.coming_in_bounds.0 c.own.ensures, c.requires.coming_in_bounds)

pub returns : goal.returns
returns c =
    (cut_piece c.args.table.now c.args.doc.now c.args.at c.args.coming c.in_ok-piece_fault.ensures, ap (λ k. c.args.over + k) (cut_own c.args.doc.now c.args.at c.args.coming c.own.ensures))
