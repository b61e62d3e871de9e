-- `all_zero` meets its contract. Assumes nothing.
use Rattle.zeros.specs.Union.{union_zeros}
use Rattle.zeros.proofs.all_zero.Goals as goal

pub returns : goal.returns
returns c = search union_zeros
