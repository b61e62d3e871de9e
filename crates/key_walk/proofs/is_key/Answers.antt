-- `key_walk::is_key` meets its contract. Assumes nothing.
use Rattle.key_walk.specs.Walk.{key_none, key_test}
use Rattle.key_walk.proofs.is_key.Goals as goal

pub returns-then-not-is_value : goal.returns-then-not-is_value
returns-then-not-is_value c = search key_none

pub returns : goal.returns
returns c = search key_test
