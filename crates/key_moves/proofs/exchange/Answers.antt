-- `key_moves::exchange` meets its contract. Assumes nothing.
use Rattle.key_moves.specs.Moves.{exchange_room, exchange_both}
use borrow.Author.Rules.{rules}
use Rattle.key_moves.proofs.exchange.Goals as goal

pub enter-requires : goal.enter-requires
enter-requires c = record { table_value = search rules; long = (search rules, exchange_room c.leave.ensures c.requires.long.2) }

pub returns : goal.returns
returns c = search exchange_both
