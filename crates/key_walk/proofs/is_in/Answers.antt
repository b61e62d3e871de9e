-- `key_walk::is_in` meets its contract. Assumes nothing.
use Rattle.key_walk.specs.Kinds.{not_in}
use Rattle.key_walk.proofs.is_in.Goals as goal

pub returns-then-attribute-ge-MOST_ATTRIBUTES : goal.returns-then-attribute-ge-MOST_ATTRIBUTES
returns-then-attribute-ge-MOST_ATTRIBUTES c = search not_in
