-- `compare::lost` meets its contract. One law of `Call` for each way out. Assumes nothing.
use Rattle.compare.specs.Call.{bad_old, bad_new, not_in_old, not_in_new, kind_of_old, kind_of_new, too_short, found_out, blocks_of_lem, held, has_first, few_elements, in_table}
use Rattle.std.proofs.Common.{ap, arith}
use Rattle.std.proofs.Math.Bool.{not}
use Rattle.compare.proofs.lost.Goals as goal

pub returns-then-not-proper : goal.returns-then-not-proper
returns-then-not-proper c = search bad_old

pub returns-then-not-proper-2 : goal.returns-then-not-proper-2
returns-then-not-proper-2 c = search bad_new

pub bounds-old-0 : goal.bounds-old-0
bounds-old-0 c = search (has_first, held)

pub returns-then-element-old : goal.returns-then-element-old
returns-then-element-old c = search (not_in_old, held)

pub bounds-new-0 : goal.bounds-new-0
bounds-new-0 c = has_first _ (held _ c.proper-2.ensures (ap not c.if-not-proper-2.false))

pub returns-then-element-new : goal.returns-then-element-new
returns-then-element-new c = search (not_in_new, held)

pub is_compared-requires : goal.is_compared-requires
is_compared-requires c = (held _ c.proper.ensures (ap not c.if-not-proper.false), c.if-element-old.false)

pub returns-then-not-is_compared : goal.returns-then-not-is_compared
returns-then-not-is_compared c = search (kind_of_old, held)

pub is_compared-requires-2 : goal.is_compared-requires-2
is_compared-requires-2 c = (held _ c.proper-2.ensures (ap not c.if-not-proper-2.false), c.if-element-new.false)

pub returns-then-not-is_compared-2 : goal.returns-then-not-is_compared-2
returns-then-not-is_compared-2 c = search (kind_of_new, held)

pub returns-then-sequence-lt-SEQUENCE_PLACES : goal.returns-then-sequence-lt-SEQUENCE_PLACES
returns-then-sequence-lt-SEQUENCE_PLACES c = search (too_short, held)

pub block_of-requires : goal.block_of-requires
block_of-requires c = in_table _ _ (held _ c.proper.ensures (ap not c.if-not-proper.false)) c.if-element-old.false

pub block_of-requires-2 : goal.block_of-requires-2
block_of-requires-2 c = in_table _ _ (held _ c.proper-2.ensures (ap not c.if-not-proper-2.false)) c.if-element-new.false

pub bounds-old-0-2 : goal.bounds-old-0-2
bounds-old-0-2 c = search (has_first, held)

pub overflow_cast-old : goal.overflow_cast-old
overflow_cast-old c = omega (arith, few_elements _ (held _ c.proper.ensures (ap not c.if-not-proper.false)))

pub search-found-requires : goal.search-found-requires
search-found-requires c = record {
  blocks = blocks_of_lem _ _ _ (held _ c.proper.ensures (ap not c.if-not-proper.false)) (held _ c.proper-2.ensures (ap not c.if-not-proper-2.false))
      c.if-element-old.false c.if-element-new.false c.block_of.ensures c.block_of-2.ensures;
  sequence_places_in_bounds = c.if-sequence-lt-SEQUENCE_PLACES.false;
}

pub returns : goal.returns
returns c = search (found_out, held)
