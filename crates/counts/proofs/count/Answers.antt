-- `counts::count` meets its contract. Assumes nothing.
use Rattle.counts.specs.Whole.{fresh_long, fresh_small, fresh_put}
use borrow.Author.Rules.{rules}
use Rattle.counts.proofs.count.Goals as goal

pub put-requires : goal.put-requires
put-requires c = search (rules, fresh_long, fresh_small)

pub returns : goal.returns
returns c = search fresh_put
