-- `fixed_values::value_of` meets its contract. The loop's invariant is `Looking`. Assumes nothing.
use Rattle.fixed_values.specs.Value.{count_in, looking_none, looking_found, looking_more, looking_all}
use Rattle.fixed_values.proofs.value_of.Goals as goal

pub bounds-table-6626 : goal.bounds-table-6626
bounds-table-6626 c = search count_in

pub loop-i-init : goal.loop-i-init
loop-i-init c = search looking_none

pub returns-then-e-table : goal.returns-then-e-table
returns-then-e-table c = search looking_found

pub loop-i-preserved : goal.loop-i-preserved
loop-i-preserved c = search looking_more

pub returns : goal.returns
returns c = search looking_all
