-- `fixed_values::fixed_kept` meets its contract. The loop's invariant is `Keeping`. Assumes nothing.
use Rattle.fixed_values.specs.Kept.{keeping_none, keeping_not, keeping_attribute, keeping_value, keeping_other, keeping_all}
use Rattle.fixed_values.proofs.fixed_kept.Goals as goal

pub loop-i-init : goal.loop-i-init
loop-i-init c = search keeping_none

pub returns-then-not-is_kept : goal.returns-then-not-is_kept
returns-then-not-is_kept c = search keeping_not

pub loop-i-preserved-then-is_attribute : goal.loop-i-preserved-then-is_attribute
loop-i-preserved-then-is_attribute c = search keeping_attribute

pub loop-i-preserved : goal.loop-i-preserved
loop-i-preserved c = search keeping_value

pub returns-in-loop-i : goal.returns-in-loop-i
returns-in-loop-i c = search keeping_other

pub returns : goal.returns
returns c = search keeping_all
