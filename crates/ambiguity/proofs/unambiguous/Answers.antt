-- `unambiguous` meets its contract. The loop: the answer is that of the follow sets from k on, and the set before holds no two. Assumes nothing.
use Rattle.std.proofs.Common.{ap, rules}
use Rattle.std.proofs.Math.Bool.{not}
use Rattle.ambiguity.proofs.Sharing.{names_differ, walk_small, first_clash, first_passes, next_clash, next_passes, all_pass}
use Rattle.ambiguity.proofs.unambiguous.Goals as goal

pub returns-then-twice-eq0 : goal.returns-then-twice-eq0
returns-then-twice-eq0 c = search names_differ

pub one_each-requires : goal.one_each-requires
one_each-requires c = (search rules, search walk_small)

pub returns-then-not-one_each : goal.returns-then-not-one_each
returns-then-not-one_each c = search first_clash

pub loop-k-init : goal.loop-k-init
loop-k-init c = search first_passes

pub once_after-requires : goal.once_after-requires
once_after-requires c = (search rules, search walk_small, search rules)

pub returns-then-not-once_after : goal.returns-then-not-once_after
returns-then-not-once_after c = search next_clash

pub loop-k-preserved : goal.loop-k-preserved
loop-k-preserved c =
    next_passes c.requires c.repeated-twice.ensures c.places_of-shared.ensures _ _ _ c.loop-k.invariant c.loop-k-test.true
    c.once_after.ensures (ap not c.if-not-once_after.false)

pub returns : goal.returns
returns c = search all_pass
