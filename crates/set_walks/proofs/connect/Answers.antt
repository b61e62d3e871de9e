-- `connect` meets its contract. The loop: what the members that are left come to is the answer. Assumes nothing.
use Rattle.std.proofs.Common.{refl, ap, arith}
use Rattle.sets.specs.declared.Members.{Members}
use Rattle.sets.specs.Lowest.{taken_below}
use Rattle.set_walks.specs.Joined.{none_joined, all_joined, one_joined}
use Rattle.set_walks.proofs.connect.Goals as goal

pub loop-k-init : goal.loop-k-init
loop-k-init c = let e = ap (λ (m : Members). m.0) c.into_iter-k-iterator.ensures.into_iter_gives in rw e (none_joined _ _ _ c.ranges.from.fits c.requires)

pub bounds-follow-k : goal.bounds-follow-k
bounds-follow-k c = let t = taken_below _ _ _ c.loop-k.invariant.fits c.in-Some.ensures.steps in omega arith

pub loop-k-preserved : goal.loop-k-preserved
loop-k-preserved c = one_joined _ _ _ _ c.loop-k.invariant c.in-Some.ensures.steps refl

pub returns : goal.returns
returns c = all_joined _ _ _ _ c.loop-k.invariant c.in-None.ensures.steps.0
