-- `piece_faults::within` meets its contract. Assumes nothing.
use native.Mathlib.Omega.{arith}
use Prim.Native.Nat.{ℕ}
use Rattle.std.proofs.lemmas.List.{length-replicate}
use borrow.Author.Rules.{rules}
use Rattle.children.specs.Closed.{closed}
use Rattle.piece_faults.specs.Piece.{piece_none, piece_within, piece_moved}
use Rattle.piece_faults.proofs.within.Goals as goal

pub closes-requires : goal.closes-requires
closes-requires g c = let r = c.requires.piece_len_bound in (omega arith, omega (arith, length-replicate {A = ℕ} g.row.ROOM 0))

pub whole_as_slice-closes : goal.whole_as_slice-closes
whole_as_slice-closes g c = let r = c.requires.piece_len_bound in omega arith

pub shared_whole_as_slice-first_fault : goal.shared_whole_as_slice-first_fault
shared_whole_as_slice-first_fault g c = let r = c.requires.piece_len_bound in omega arith

pub first_fault-requires : goal.first_fault-requires
first_fault-requires g c =
    let ends = closed c.args.piece.now _ c.closes.ensures in
    record { table_value = c.requires.table_value; closed = ends; high_in_bounds = (omega (arith, c.requires.piece_len_bound), omega arith) }

pub returns-in-Ok : goal.returns-in-Ok
returns-in-Ok g c = piece_none c.args.table.now c.args.piece.now c.args.at c.in-Ok.ensures

pub moved-requires : goal.moved-requires
moved-requires g c = piece_within c.args.table.now c.args.piece.now c.args.at c.in-Err.fault c.in-Err.ensures c.requires.piece_len_bound.0

pub returns-in-Err : goal.returns-in-Err
returns-in-Err g c = piece_moved c.args.table.now c.args.piece.now c.args.at c.in-Err.fault c.in-Err.ensures c.moved.result c.moved.ensures
