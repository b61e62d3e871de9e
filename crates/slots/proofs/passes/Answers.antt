use Rattle.slots.specs.Counts.{passes_told}
use Rattle.slots.proofs.passes.Goals as goal

pub returns : goal.returns
returns c = search passes_told
