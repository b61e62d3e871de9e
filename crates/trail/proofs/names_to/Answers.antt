-- `trail::names_to` meets its contract. The invariant is `Counting`; the measure is the entry. Assumes nothing.
use native.Mathlib.Omega.{arith}
use Rattle.std.proofs.lemmas.List.{length-map}
use Rattle.trail.specs.Entries.{from_at}
use Rattle.trail.specs.Write.{count_none, count_room, count_less, count_more, count_all}
use Rattle.trail.proofs.names_to.Goals as goal

pub loop-j-init : goal.loop-j-init
loop-j-init c = search count_none

pub overflow_add-n : goal.overflow_add-n
overflow_add-n c = omega (arith, count_room c.requires c.loop-j.invariant c.loop-j-test.true)

pub bounds-entries-j : goal.bounds-entries-j
bounds-entries-j c = let e = length-map c.args.entries.now (λ e. e.from) in let i = c.requires.in_from in let b = c.loop-j.invariant.below in omega arith

pub loop-j-smaller : goal.loop-j-smaller
loop-j-smaller c = rw (← from_at c.args.entries.now c.loop-j.j) (count_less c.requires c.loop-j.invariant c.loop-j-test.true)

pub loop-j-preserved : goal.loop-j-preserved
loop-j-preserved c = rw (← from_at c.args.entries.now c.loop-j.j) (count_more c.requires c.loop-j.invariant c.loop-j-test.true)

pub returns : goal.returns
returns c = search count_all
