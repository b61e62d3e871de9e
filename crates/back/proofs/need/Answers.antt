-- `back::need` meets its contract. Assumes nothing.
use Rattle.back.specs.Noted.{count_one, count_cut}
use Rattle.back.proofs.need.Goals as goal

pub returns-then-adds : goal.returns-then-adds
returns-then-adds c = search count_one

pub returns : goal.returns
returns c = search count_cut
