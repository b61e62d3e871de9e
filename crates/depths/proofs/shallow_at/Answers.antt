-- `depths::shallow_at` meets its contract. Assumes nothing.
use Rattle.depths.specs.Depths.{below_none, below_some}
use Rattle.depths.proofs.shallow_at.Goals as goal

pub returns-then-below-eq0 : goal.returns-then-below-eq0
returns-then-below-eq0 c = search below_none

pub returns : goal.returns
returns c = search below_some
