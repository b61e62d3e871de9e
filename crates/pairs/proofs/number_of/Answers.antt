-- `pairs::number_of` meets its contract. Assumes nothing.
use Rattle.pairs.specs.Number.{number_at}
use native.Mathlib.Omega.{arith}
use Rattle.pairs.proofs.number_of.Goals as goal

pub overflow_add-result : goal.overflow_add-result
overflow_add-result c = omega (arith, number_at c.in-At.is)

pub returns-in-At : goal.returns-in-At
returns-in-At c = search number_at
