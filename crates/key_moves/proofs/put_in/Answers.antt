-- `key_moves::put_in` meets its contract. Assumes nothing.
use Rattle.key_moves.specs.Moves.{bit_of, count_of, raise_asks, raise_none, raise_fits, raise_one, put_none, put_one}
use borrow.Author.Rules.{rules}
use Rattle.key_moves.proofs.put_in.Goals as goal

pub returns-then-not-is_value : goal.returns-then-not-is_value
returns-then-not-is_value c = search put_none

pub note-met-requires : goal.note-met-requires
note-met-requires c = search bit_of

pub returns-then-not-is_reference : goal.returns-then-not-is_reference
returns-then-not-is_reference c = search (rules, put_one, raise_none)

pub bounds-counts-i : goal.bounds-counts-i
bounds-counts-i c = search (rules, count_of)

pub overflow_add-counts : goal.overflow_add-counts
overflow_add-counts c = search (rules, raise_fits, raise_asks)

pub returns : goal.returns
returns c = search (rules, put_one, raise_one)
