-- `kept_judged::keys_follow` meets its contract. Assumes nothing.
use Rattle.kept_judged.specs.Judged.{follow_change}
use borrow.Author.Rules.{rules}
use Rattle.kept_judged.proofs.keys_follow.Goals as goal

pub follow-requires : goal.follow-requires
follow-requires c = record { table_value = search rules; change = search (rules, follow_change) }
