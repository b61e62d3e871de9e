-- `key_walk::pass` meets its contract. Assumes nothing.
use Rattle.key_walk.specs.Walk.{pass_one}
use Rattle.key_walk.proofs.pass.Goals as goal

pub returns : goal.returns
returns c = search pass_one
