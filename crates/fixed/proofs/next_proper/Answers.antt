-- `fixed::next_proper` meets its contract. Assumes nothing.
use Rattle.fixed.specs.Entry.{next_test}
use Rattle.fixed.proofs.next_proper.Goals as goal

pub returns : goal.returns
returns c = search next_test
