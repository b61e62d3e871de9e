-- `counts::moves` meets its contract. Assumes nothing.
use Rattle.counts.specs.Whole.{tallies_each, moved_all}
use borrow.Author.Rules.{rules}
use Rattle.counts.proofs.moves.Goals as goal

pub moved_all-requires : goal.moved_all-requires
moved_all-requires c = search (rules, tallies_each)

pub returns : goal.returns
returns c = search (rules, moved_all)
