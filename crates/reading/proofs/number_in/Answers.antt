-- `reading::number_in` meets its contract: a number that is broken, out of its range, or taken. Assumes nothing.
use native.Mathlib.Omega.{arith}
use Rattle.reading.specs.Number.{number_broken, number_low, number_high, number_got}
use Rattle.reading.proofs.number_in.Goals.{then-n-low-via-then-n-low, then-n-low-via-else-n-low+then-n-high}
use Rattle.reading.proofs.number_in.Goals as goal

pub returns-in_default : goal.returns-in_default
returns-in_default c = search number_broken

pub returns-then-n-low : goal.returns-then-n-low
returns-then-n-low c = elim c.then-n-low.branch [
  | then-n-low-via-then-n-low w ↦ search number_low
  | then-n-low-via-else-n-low+then-n-high w ↦ search number_high
]

pub returns : goal.returns
returns c = search number_got
