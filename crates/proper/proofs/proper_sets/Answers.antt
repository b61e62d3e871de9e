-- `proper_sets` meets its contract. Assumes nothing.
use Rattle.proper.specs.Attributes.{sets_test}
use Rattle.proper.proofs.proper_sets.Goals as goal

pub returns : goal.returns
returns c = search sets_test
