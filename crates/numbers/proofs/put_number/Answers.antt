-- `numbers::put_number` meets its contract, by the number's one, two or three bytes. Assumes nothing.
use native.Mathlib.Omega.{arith}
use lib.ListN.{length-set}
use Rattle.numbers.specs.Store.{least_wide, two_wide, three_wide, one_stored, two_stored, three_stored}
use Rattle.numbers.proofs.put_number.Goals as goal

pub bounds-s-at : goal.bounds-s-at
bounds-s-at c = omega (arith, least_wide c.args.n)

pub returns-then-n-lt128 : goal.returns-then-n-lt128
returns-then-n-lt128 c = search one_stored

pub bounds-s-at-2 : goal.bounds-s-at-2
bounds-s-at-2 c = omega (arith, least_wide c.args.n)

pub bounds-s-at-then-n-lt16384 : goal.bounds-s-at-then-n-lt16384
bounds-s-at-then-n-lt16384 c = simp length-set (omega (arith, two_wide c.args.n (omega arith) (omega arith)))

pub returns-then-n-lt16384 : goal.returns-then-n-lt16384
returns-then-n-lt16384 c = search two_stored

pub bounds-s-at-3 : goal.bounds-s-at-3
bounds-s-at-3 c = simp length-set (omega (arith, three_wide c.args.n (omega arith)))

pub bounds-s-at-4 : goal.bounds-s-at-4
bounds-s-at-4 c = simp length-set (omega (arith, three_wide c.args.n (omega arith)))

pub returns : goal.returns
returns c = search three_stored
