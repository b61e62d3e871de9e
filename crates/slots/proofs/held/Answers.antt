use Rattle.std.proofs.Common.{◌≤◌, ◌-◌, arith, length, take, drop, length-drop, length-take}
use Rattle.slots.specs.Counts.{values_few}
use Rattle.slots.proofs.held.Goals as goal

pub overflow_add-result : goal.overflow_add-result
overflow_add-result c =
    let l = c.args.rest.now in
    let h : c.values.result ≤ length (take (length l - 1) (drop 1 l)) = values_few (take (length l - 1) (drop 1 l)) c.values.ensures in
    omega (arith, length-take (length l - 1) (drop 1 l), length-drop 1 l)
