-- `numbers::width` meets its contract, by the number's one, two or three bytes. Assumes nothing.
use Rattle.numbers.specs.Store.{one_wide, two_wide, three_wide}
use Rattle.numbers.proofs.width.Goals as goal

pub returns-then-n-lt128 : goal.returns-then-n-lt128
returns-then-n-lt128 c = search one_wide

pub returns-then-n-lt16384 : goal.returns-then-n-lt16384
returns-then-n-lt16384 c = search two_wide

pub returns : goal.returns
returns c = search three_wide
