-- `kept_keys::learn` meets its contract. Assumes nothing.
use Rattle.kept_keys.specs.Learn.{learn_room, learn_keeps}
use borrow.Author.Rules.{rules}
use Rattle.kept_keys.proofs.learn.Goals as goal

pub enter-requires : goal.enter-requires
enter-requires c = record { table_value = search rules; long = (search rules, search learn_room) }

pub returns : goal.returns
returns c = search learn_keeps
