use mathlib.Core.Path.{ap}
use lib.Bits.{bit_or}
use Rattle.sets.proofs.with.Goals as goal

pub returns : goal.returns
returns c = ap (bit_or c.args.set) c.one.ensures
