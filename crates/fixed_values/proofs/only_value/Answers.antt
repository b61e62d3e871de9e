-- `fixed_values::only_value` meets its contract. Assumes nothing.
use Rattle.fixed_values.specs.Only.{only_value_lem}
use Rattle.fixed_values.proofs.only_value.Goals as goal

pub returns : goal.returns
returns c = search only_value_lem
