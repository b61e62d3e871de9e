-- `key_walk::attribute_after` meets its contract. Assumes nothing.
use Rattle.key_walk.specs.Walk.{attribute_here, attribute_other}
use Rattle.key_walk.proofs.attribute_after.Goals as goal

pub returns-then-is_attribute : goal.returns-then-is_attribute
returns-then-is_attribute c = search attribute_here

pub returns : goal.returns
returns c = search attribute_other
