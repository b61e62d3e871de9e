-- `kept_keys::are_settled` meets its contract. Assumes nothing.
use Rattle.key_walk.specs.Walk.{pass_less}
use Rattle.kept_keys.specs.Settled.{settling_begin, settling_none, settling_more, settling_end}
use Rattle.kept_keys.proofs.are_settled.Goals as goal

pub loop-at-init : goal.loop-at-init
loop-at-init c = search settling_begin

pub returns-then-not-is_settled : goal.returns-then-not-is_settled
returns-then-not-is_settled c = search settling_none

pub loop-at-smaller : goal.loop-at-smaller
loop-at-smaller c = search pass_less

pub loop-at-preserved : goal.loop-at-preserved
loop-at-preserved c = search settling_more

pub returns : goal.returns
returns c = search settling_end
