-- `once_after` meets its contract. Assumes nothing.
use Rattle.ambiguity.proofs.Sharing.{once_part}
use Rattle.ambiguity.proofs.once_after.Goals as goal

pub returns-then-is_within : goal.returns-then-is_within
returns-then-is_within c = search once_part
