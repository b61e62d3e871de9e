use Rattle.scan.specs.Steps.{passed_made, attribute_le, value_le, rise_le, times_le}
use Prim.Native.Nat.{◌+◌, ◌%◌, ◌/◌}
use native.Mathlib.Omega.{arith}
use Rattle.scan.proofs.passed.Goals as goal

pub overflow_mul-result : goal.overflow_mul-result
overflow_mul-result c =
    let a = c.args in
    omega (arith, times_le a.s.least c.rule-value.result (omega (arith, value_le (a.t % 8) (omega arith))))

pub overflow_mul-result-2 : goal.overflow_mul-result-2
overflow_mul-result-2 c =
    let a = c.args in
    omega (arith, times_le (a.t / 8 + 1) c.rule-attribute.result (omega (arith, attribute_le (a.t % 8) (omega arith))))

pub overflow_add-result-2 : goal.overflow_add-result-2
overflow_add-result-2 c =
    let a = c.args in
    omega (
      arith,
      times_le a.s.least c.rule-value.result (omega (arith, value_le (a.t % 8) (omega arith))),
      times_le (a.t / 8 + 1) c.rule-attribute.result (omega (arith, attribute_le (a.t % 8) (omega arith))),
    )

pub overflow_add-result-3 : goal.overflow_add-result-3
overflow_add-result-3 c = omega (arith, rise_le (c.args.t % 8) (omega arith))

pub returns : goal.returns
returns c = search passed_made
