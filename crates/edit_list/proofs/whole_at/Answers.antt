-- `edit_list::whole_at` meets its contract. Assumes nothing.
use Prim.Native.Nat.{◌+◌}
use native.Mathlib.Omega.{arith}
use Rattle.edit_list.specs.Places.{whole_short, whole_long}
use Rattle.edit_list.proofs.whole_at.Goals as goal

pub returns-then-left-lt-BACK_PIECE : goal.returns-then-left-lt-BACK_PIECE
returns-then-left-lt-BACK_PIECE c = search whole_short

pub overflow_cast-count : goal.overflow_cast-count
overflow_cast-count c = omega (arith, c.type_inv.list (c.args.at + 2))

pub returns : goal.returns
returns c = search whole_long
