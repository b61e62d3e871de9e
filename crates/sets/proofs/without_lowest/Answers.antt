use mathlib.Core.Path.{refl}
use native.Mathlib.Omega.{arith}
use Rattle.sets.proofs.without_lowest.Goals as goal

pub overflow_sub-result : goal.overflow_sub-result
overflow_sub-result c = omega arith

pub returns : goal.returns
returns c = refl
