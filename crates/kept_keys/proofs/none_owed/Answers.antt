-- `kept_keys::none_owed` meets its contract. Assumes nothing.
use Rattle.kept_keys.specs.Settled.{settled_not, settled_both}
use Rattle.kept_keys.proofs.none_owed.Goals as goal

pub returns-then-not-are_settled : goal.returns-then-not-are_settled
returns-then-not-are_settled c = search settled_not

pub returns : goal.returns
returns c = search settled_both
