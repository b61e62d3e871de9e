-- `key_moves::take_out` meets its contract. Assumes nothing.
use Rattle.key_moves.specs.Moves.{bit_of, count_of, lower_asks, lower_none, lower_some, lower_one, take_none, take_one}
use borrow.Author.Rules.{rules}
use Rattle.key_moves.proofs.take_out.Goals as goal

pub returns-then-not-is_value : goal.returns-then-not-is_value
returns-then-not-is_value c = search take_none

pub unmark-requires : goal.unmark-requires
unmark-requires c = search bit_of

pub returns-then-not-is_reference : goal.returns-then-not-is_reference
returns-then-not-is_reference c = search (rules, take_one, lower_none)

pub bounds-counts-i : goal.bounds-counts-i
bounds-counts-i c = search (rules, count_of)

pub overflow_sub-counts : goal.overflow_sub-counts
overflow_sub-counts c = search (rules, lower_some, lower_asks)

pub returns : goal.returns
returns c = search (rules, take_one, lower_one)
