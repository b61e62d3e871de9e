-- `counts::put` meets its contract. Assumes nothing.
use Rattle.counts.specs.Moved.{put_small, putting_begin, putting_turn, putting_end}
use borrow.Author.Rules.{rules}
use Rattle.counts.proofs.put.Goals as goal

pub loop-e-init : goal.loop-e-init
loop-e-init c = search (rules, putting_begin)

pub overflow_cast-counts : goal.overflow_cast-counts
overflow_cast-counts c = search (rules, put_small)

pub loop-e-preserved : goal.loop-e-preserved
loop-e-preserved c = search (rules, putting_turn)

pub returns : goal.returns
returns c = search putting_end
