-- `keys::dangling_reference` meets its contract. The invariant is `Looking`; the measure is how many tokens are left. Assumes nothing.
use borrow.Author.Rules.{rules}
use Rattle.keys.specs.Looking.{look_none, look_end, look_in, look_pass, look_bit, look_found, look_more, look_less}
use Rattle.keys.proofs.dangling_reference.Goals as goal

pub loop-left-init : goal.loop-left-init
loop-left-init c = search look_none

pub overflow_cast-here : goal.overflow_cast-here
overflow_cast-here c = search (rules, look_in)

pub bounds-doc-i : goal.bounds-doc-i
bounds-doc-i c = search look_in

pub pass-at-requires : goal.pass-at-requires
pass-at-requires c = search (rules, look_in)

pub loop-left-smaller-then-not-is_reference_at : goal.loop-left-smaller-then-not-is_reference_at
loop-left-smaller-then-not-is_reference_at c = search look_less

pub loop-left-preserved-then-not-is_reference_at : goal.loop-left-preserved-then-not-is_reference_at
loop-left-preserved-then-not-is_reference_at c = search look_pass

pub is_marked-requires : goal.is_marked-requires
is_marked-requires c = search look_bit

pub returns-then-not-is_marked : goal.returns-then-not-is_marked
returns-then-not-is_marked c = search look_found

pub loop-left-smaller : goal.loop-left-smaller
loop-left-smaller c = search look_less

pub loop-left-preserved : goal.loop-left-preserved
loop-left-preserved c = search look_more

pub returns : goal.returns
returns c = search look_end
