use Prim.Native.Nat.{◌%◌}
use Rattle.scan.specs.Steps.{stands_closed, stands_deep, stands_number, stands_sort, stands_order, attribute_le, times_le}
use native.Mathlib.Omega.{arith}
use Rattle.scan.proofs.stands.Goals as goal

pub returns-then-s-eq0 : goal.returns-then-s-eq0
returns-then-s-eq0 c = search stands_closed

pub returns-then-s-gt-DEEPEST : goal.returns-then-s-gt-DEEPEST
returns-then-s-gt-DEEPEST c = search stands_deep

pub returns-then-rule-n : goal.returns-then-rule-n
returns-then-rule-n c = search stands_number

pub returns-then-s-t-eq0 : goal.returns-then-s-t-eq0
returns-then-s-t-eq0 c = search stands_sort

pub overflow_mul-result : goal.overflow_mul-result
overflow_mul-result c =
    let a = c.args in
    omega (arith, times_le a.s.least c.rule-2.result (omega (arith, attribute_le (a.t % 8) (omega arith))))

pub returns : goal.returns
returns c = search stands_order
