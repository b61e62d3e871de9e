-- `plans::opens` meets its contract. Assumes nothing.
use Rattle.plans.specs.Plan.{opens_told}
use Rattle.plans.proofs.opens.Goals as goal

pub returns : goal.returns
returns c = search opens_told
