-- `proper_block` meets its contract. Assumes nothing.
use Rattle.proper.specs.Block.{sets_out, plain_test, kind_out, kind_model}
use Rattle.proper.proofs.proper_block.Goals as goal

pub returns-then-not-proper_sets : goal.returns-then-not-proper_sets
returns-then-not-proper_sets c = search sets_out

pub returns-then-kind : goal.returns-then-kind
returns-then-kind c = search plain_test

pub returns-then-kind-2 : goal.returns-then-kind-2
returns-then-kind-2 c = search kind_out

pub returns : goal.returns
returns c = search kind_model
