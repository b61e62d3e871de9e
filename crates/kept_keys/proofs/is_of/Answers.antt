-- `kept_keys::is_of` meets its contract. Assumes nothing.
use Rattle.kept_keys.specs.Settled.{kind_ids, kind_refs}
use Rattle.kept_keys.proofs.is_of.Goals as goal

pub returns-then-ids : goal.returns-then-ids
returns-then-ids c = search kind_ids

pub returns : goal.returns
returns c = search kind_refs
