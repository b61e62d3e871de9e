-- `block_of` meets its contract. Assumes nothing.
use Rattle.table.specs.Block.{block_part}
use Rattle.table.proofs.block_of.Goals as goal

pub returns : goal.returns
returns c = search block_part
