-- `trail::spell` meets its contract. The invariant is `Writing`; the measure is the entry. Assumes nothing.
use mathlib.Core.Path.{refl}
use native.Mathlib.Omega.{arith}
use Rattle.trail.specs.Entries.{from_at, name_at}
use Rattle.trail.specs.Write.{traced, write_none, write_less, write_some, write_room, write_more, write_all}
use Rattle.trail.proofs.spell.Goals as goal

pub names_to-n-requires : goal.names_to-n-requires
names_to-n-requires c = search traced

pub loop-i-init : goal.loop-i-init
loop-i-init c = search write_none

pub overflow_sub-k : goal.overflow_sub-k
overflow_sub-k c = search write_some

pub offset_bounds-sequence-k : goal.offset_bounds-sequence-k
offset_bounds-sequence-k c = omega (arith, write_room c.requires c.loop-i.invariant c.loop-i-test.true refl)

pub bounds-sequence-k : goal.bounds-sequence-k
bounds-sequence-k c = search write_room

pub loop-i-smaller : goal.loop-i-smaller
loop-i-smaller c = rw (← from_at c.args.entries.now c.loop-i.i) (write_less c.requires c.loop-i.invariant c.loop-i-test.true)

pub loop-i-preserved : goal.loop-i-preserved
loop-i-preserved c =
    rw (← from_at c.args.entries.now c.loop-i.i, ← name_at c.args.entries.now c.loop-i.i)
    (write_more c.requires c.loop-i.invariant c.loop-i-test.true (write_room c.requires c.loop-i.invariant c.loop-i-test.true refl))

pub returns : goal.returns
returns c = search write_all
