-- `key_walk::element_after` meets its contract. Assumes nothing.
use Rattle.key_walk.specs.Walk.{element_start, element_other}
use Rattle.key_walk.proofs.element_after.Goals as goal

pub returns-then-is_start : goal.returns-then-is_start
returns-then-is_start c = search element_start

pub returns : goal.returns
returns c = search element_other
