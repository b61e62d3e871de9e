-- `breadth::expand` meets its contract. The loop's invariant is `Trying`. Assumes nothing.
use mathlib.Core.Path.{refl}
use Rattle.trail.specs.Entries.{met_at}
use Rattle.breadth.specs.Try.{try_pair, try_marked, try_nowhere, try_met, try_all, entry_here, entry_room, entry_new}
use Rattle.breadth.proofs.expand.Goals as goal
use Rattle.breadth.proofs.expand.Goals.{in-Some+then-seen-met-eq0, in-Some+else-seen-met-eq0, in_default}

pub bounds-entries-head : goal.bounds-entries-head
bounds-entries-head c = entry_here _ c.requires

pub loop-child-init : goal.loop-child-init
loop-child-init c = rw (← met_at c.args.entries.now c.args.head) c.requires

pub leads-requires : goal.leads-requires
leads-requires c = search try_pair

pub bounds-seen-met : goal.bounds-seen-met
bounds-seen-met c = try_marked c.loop-child.invariant _ c.leads.ensures c.in-Some.is

pub bounds-seen-met-then-seen-met-eq0 : goal.bounds-seen-met-then-seen-met-eq0
bounds-seen-met-then-seen-met-eq0 c = try_marked c.loop-child.invariant _ c.leads.ensures c.in-Some.is

pub bounds-entries-end : goal.bounds-entries-end
bounds-entries-end c = entry_room _ c.loop-child.invariant _ c.leads.ensures c.in-Some.is c.if-seen-met-eq0.true

pub loop-child-preserved : goal.loop-child-preserved
loop-child-preserved c = elim c.match-leads.branch [
  | in-Some+then-seen-met-eq0 w ↦ rw (w.seen-is, w.entries-is, w.end-is) (entry_new _ c.loop-child.invariant _ c.loop-child-test.true c.leads.ensures w.in-Some.is w.if-seen-met-eq0.true _ refl)
  | in-Some+else-seen-met-eq0 w ↦ rw (w.seen-is, w.entries-is, w.end-is) (try_met c.loop-child.invariant _ c.loop-child-test.true c.leads.ensures w.in-Some.is w.if-seen-met-eq0.false)
  | in_default w ↦ rw (w.seen-is, w.entries-is, w.end-is) (try_nowhere c.loop-child.invariant c.loop-child-test.true c.leads.ensures w.in_default.is)
]

pub returns : goal.returns
returns c = search try_all
