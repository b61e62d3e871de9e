-- `counts::read` meets its contract. Assumes nothing.
use Rattle.counts.specs.Whole.{none_few, stands_all}
use borrow.Author.Rules.{rules}
use Rattle.counts.proofs.read.Goals as goal

pub moved_all-requires : goal.moved_all-requires
moved_all-requires c = search (rules, none_few)

pub returns : goal.returns
returns c = search (rules, stands_all)
