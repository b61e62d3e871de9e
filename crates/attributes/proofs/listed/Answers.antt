-- `attributes::listed` meets its contract. The loop's invariant is `Passing`. Assumes nothing.
use Rattle.attributes.specs.Attributes.{passing_begin, passing_attribute, passing_value, passing_other, passing_out}
use Rattle.attributes.proofs.listed.Goals as goal

pub loop-i-init : goal.loop-i-init
loop-i-init c = search passing_begin

pub loop-i-preserved-then-is_attribute : goal.loop-i-preserved-then-is_attribute
loop-i-preserved-then-is_attribute c = search passing_attribute

pub loop-i-preserved : goal.loop-i-preserved
loop-i-preserved c = search passing_value

pub returns-in-loop-i : goal.returns-in-loop-i
returns-in-loop-i c = search passing_other

pub returns : goal.returns
returns c = search passing_out
