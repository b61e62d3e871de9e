-- `edit_list::edit_at` meets its contract. Assumes nothing.
use Prim.Native.Nat.{◌+◌}
use native.Mathlib.Omega.{arith}
use Rattle.edit_list.specs.Places.{handed}
use Rattle.edit_list.proofs.edit_at.Goals as goal

pub overflow_cast-count : goal.overflow_cast-count
overflow_cast-count c = omega (arith, c.type_inv.list (c.args.at + 2))

pub returns : goal.returns
returns c = search handed
