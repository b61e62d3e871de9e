-- `dtd_list::put_name` meets its contract: what is left to put is the name from i on, and byte 10. Assumes nothing.
use borrow.Author.Rules.{rules}
use Prim.Native.Nat.{◌-◌, ◌<◌}
use native.Mathlib.Omega.{arith}
use lib.ListN.{length}
use Rattle.dtd_list.specs.Puts.{naming_none, naming_room, naming_inside, naming_more, naming_all}
use Rattle.dtd_list.proofs.put_name.Goals as goal

pub loop-out-init : goal.loop-out-init
loop-out-init c = search (rules, naming_none)

pub bounds-text-i : goal.bounds-text-i
bounds-text-i c = search (rules, naming_inside)

pub bounds-out-k : goal.bounds-out-k
bounds-out-k c = search (rules, naming_room)

pub overflow_add-i : goal.overflow_add-i
overflow_add-i c = let h : c.loop-out.i < length c.args.text.now = search (rules, naming_inside) in omega arith

pub overflow_add-k : goal.overflow_add-k
overflow_add-k c = let h : c.loop-out.k < length c.loop-out.out = search (rules, naming_room) in search rules

pub loop-out-smaller : goal.loop-out-smaller
loop-out-smaller c = let h : c.loop-out.i < length c.args.text.now = search (rules, naming_inside) in omega arith

pub loop-out-preserved : goal.loop-out-preserved
loop-out-preserved c = search (rules, naming_more)

pub bounds-out-k-2 : goal.bounds-out-k-2
bounds-out-k-2 c = search (rules, naming_room)

pub overflow_add-result : goal.overflow_add-result
overflow_add-result c = let h : c.loop-out.k < length c.loop-out.out = search (rules, naming_room) in search rules

pub returns : goal.returns
returns c = search (rules, naming_all)
