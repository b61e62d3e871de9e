-- `fixed::proper_fixed` meets its contract. Assumes nothing.
use Rattle.fixed.specs.Entries.{too_many, rest_not, fixed_test}
use Rattle.fixed.proofs.proper_fixed.Goals as goal

pub returns-then-count : goal.returns-then-count
returns-then-count c = search too_many

pub returns-then-not-all_zero : goal.returns-then-not-all_zero
returns-then-not-all_zero c = search rest_not

pub returns : goal.returns
returns c = search fixed_test
