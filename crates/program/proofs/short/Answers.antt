-- `program::short` meets its contract. Assumes nothing.
use mathlib.Core.Path.{refl}
use Rattle.program.proofs.short.Goals as goal

pub returns : goal.returns
returns c = refl
