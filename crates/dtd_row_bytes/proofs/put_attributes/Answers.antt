-- `dtd_row_bytes::put_attributes` meets its contract: what is left to put is the attributes of a set. Assumes nothing.
use Rattle.std.proofs.Common.{ap, rules}
use Rattle.sets.specs.declared.Members.{Members}
use Rattle.dtd_row_bytes.specs.Turns.{walking_none, walking_room, walking_more, walking_all}
use Rattle.dtd_row_bytes.proofs.put_attributes.Goals as goal

pub loop-k-init : goal.loop-k-init
loop-k-init c = let e = ap (λ (m : Members). m.0) c.into_iter-k-iterator.ensures.into_iter_gives in rw e (search (rules, walking_none))

pub put_attribute-next-requires : goal.put_attribute-next-requires
put_attribute-next-requires c = walking_room _ _ _ _ _ _ c.loop-k.invariant _ _ c.in-Some.ensures.steps

pub loop-k-preserved : goal.loop-k-preserved
loop-k-preserved c = walking_more _ _ _ _ _ _ c.loop-k.invariant _ _ c.in-Some.ensures.steps _ _ c.put_attribute-next.ensures

pub returns : goal.returns
returns c = walking_all _ _ _ _ _ _ c.loop-k.invariant c.in-None.ensures.steps.0
