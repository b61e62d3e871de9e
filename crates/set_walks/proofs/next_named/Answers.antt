-- `next_named` meets its contract. The loop: what the members that are left come to is the answer. Assumes nothing.
use Rattle.std.proofs.Common.{ap, arith}
use Rattle.sets.specs.declared.Members.{Members}
use Rattle.sets.specs.Lowest.{taken_below}
use Rattle.set_walks.specs.Named.{none_sought, all_sought, found_named, others_sought}
use Rattle.set_walks.proofs.next_named.Goals as goal

pub loop-k-init : goal.loop-k-init
loop-k-init c = let e = ap (λ (m : Members). m.0) c.into_iter-k-iterator.ensures.into_iter_gives in rw e (none_sought _ _ _ c.ranges.set.fits)

pub bounds-names-k : goal.bounds-names-k
bounds-names-k c = let t = taken_below _ _ _ c.loop-k.invariant.fits c.in-Some.ensures.steps in omega arith

pub returns-then-names-k : goal.returns-then-names-k
returns-then-names-k c = found_named _ _ _ _ c.loop-k.invariant c.requires c.in-Some.ensures.steps c.if-names-k.true

pub loop-k-preserved : goal.loop-k-preserved
loop-k-preserved c = others_sought _ _ _ _ c.loop-k.invariant c.requires c.in-Some.ensures.steps c.if-names-k.false

pub returns : goal.returns
returns c = all_sought _ _ _ _ c.loop-k.invariant c.in-None.ensures.steps.0
