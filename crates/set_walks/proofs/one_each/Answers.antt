-- `one_each` meets its contract. The loop: what the members that are left come to is the answer. Assumes nothing.
use Rattle.std.proofs.Common.{ap, arith}
use Rattle.sets.specs.declared.Members.{Members}
use Rattle.sets.specs.Lowest.{taken_below}
use Rattle.set_walks.specs.Seen.{none_seen, all_seen, name_low, seen_twice, seen_once}
use Rattle.set_walks.proofs.one_each.Goals as goal

pub loop-k-init : goal.loop-k-init
loop-k-init c = let e = ap (λ (m : Members). m.0) c.into_iter-k-iterator.ensures.into_iter_gives in rw e (none_seen _ _ c.ranges.set.fits c.requires.1)

pub bounds-names-k : goal.bounds-names-k
bounds-names-k c = let t = taken_below _ _ _ c.loop-k.invariant.fits c.in-Some.ensures.steps in omega arith

pub overflow_cast-name-in-loop-k : goal.overflow_cast-name-in-loop-k
overflow_cast-name-in-loop-k c = omega (arith, name_low _ _ _ _ c.loop-k.invariant c.requires.0 c.in-Some.ensures.steps)

pub has-requires : goal.has-requires
has-requires c = name_low _ _ _ _ c.loop-k.invariant c.requires.0 c.in-Some.ensures.steps

pub returns-then-has : goal.returns-then-has
returns-then-has c = seen_twice _ _ _ _ c.loop-k.invariant c.requires.0 c.in-Some.ensures.steps c.has.ensures c.if-has.true

pub with-seen-requires : goal.with-seen-requires
with-seen-requires c = name_low _ _ _ _ c.loop-k.invariant c.requires.0 c.in-Some.ensures.steps

pub loop-k-preserved : goal.loop-k-preserved
loop-k-preserved c = seen_once _ _ _ _ c.loop-k.invariant c.requires.0 c.in-Some.ensures.steps c.has.ensures c.if-has.false c.with-seen.ensures

pub returns : goal.returns
returns c = all_seen _ _ _ _ c.loop-k.invariant c.in-None.ensures.steps.0
