-- `in_range` meets its contract. Assumes nothing.
use Rattle.proper.specs.Model.{ranged_test}
use Rattle.proper.proofs.in_range.Goals as goal

pub returns : goal.returns
returns c = search ranged_test
