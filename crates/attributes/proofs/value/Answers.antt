-- `attributes::value` meets its contract. Assumes nothing.
use Rattle.attributes.specs.Attributes.{value_last, value_other}
use Rattle.attributes.proofs.value.Goals as goal

pub returns-then-m-eq1 : goal.returns-then-m-eq1
returns-then-m-eq1 c = search value_last

pub returns : goal.returns
returns c = search value_other
