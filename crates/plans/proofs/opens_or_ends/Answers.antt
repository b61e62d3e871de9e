-- `plans::opens_or_ends` meets its contract. Assumes nothing.
use Rattle.plans.specs.Plan.{opens_ends_told}
use Rattle.plans.proofs.opens_or_ends.Goals as goal

pub returns : goal.returns
returns c = search opens_ends_told
