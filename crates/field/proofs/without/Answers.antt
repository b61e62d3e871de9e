-- `field::without` meets its contract. Assumes nothing.
use mathlib.Core.Path.{ap₂}
use lib.Bits.{bit_xor}
use Rattle.field.proofs.without.Goals as goal

pub returns : goal.returns
returns c = ap₂ bit_xor c.with.ensures c.one.ensures
