-- `keys::counted` meets its contract. Assumes nothing.
use Rattle.keys.specs.Marking.{noted_none, noted_first, noted_more}
use Rattle.keys.proofs.counted.Goals as goal

pub returns-then-not-is_reference : goal.returns-then-not-is_reference
returns-then-not-is_reference c = search noted_none

pub returns-then-refs-eq0 : goal.returns-then-refs-eq0
returns-then-refs-eq0 c = search noted_first

pub returns : goal.returns
returns c = search noted_more
