-- `kept_keys::is_settled` meets its contract. Assumes nothing.
use Rattle.key_moves.specs.Moves.{bit_of, count_of}
use Rattle.kept_keys.specs.Settled.{settled_none, settled_other, settled_id, settled_count}
use borrow.Author.Rules.{rules}
use Rattle.kept_keys.proofs.is_settled.Goals as goal

pub returns-then-not-is_value : goal.returns-then-not-is_value
returns-then-not-is_value c = search settled_none

pub returns-then-not-is_of : goal.returns-then-not-is_of
returns-then-not-is_of c = search settled_other

pub is_marked-requires : goal.is_marked-requires
is_marked-requires c = search bit_of

pub returns-then-is_marked : goal.returns-then-is_marked
returns-then-is_marked c = search settled_id

pub bounds-counts-i : goal.bounds-counts-i
bounds-counts-i c = search (rules, count_of)

pub returns : goal.returns
returns c = search settled_count
