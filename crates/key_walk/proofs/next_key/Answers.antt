-- `key_walk::next_key` meets its contract. The loop: no key was passed; the measure is how many tokens are left. Assumes nothing.
use Rattle.key_walk.specs.Walk.{pass_less, came_none, came_on, found_none, found_key}
use Rattle.key_walk.proofs.next_key.Goals as goal

pub loop-at-init : goal.loop-at-init
loop-at-init c = search came_none

pub returns-then-is_key : goal.returns-then-is_key
returns-then-is_key c = search found_key

pub loop-at-smaller : goal.loop-at-smaller
loop-at-smaller c = search pass_less

pub loop-at-preserved : goal.loop-at-preserved
loop-at-preserved c = search came_on

pub returns : goal.returns
returns c = search found_none
