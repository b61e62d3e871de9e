-- `step` meets its contract. Assumes nothing.
use native.Mathlib.Omega.{arith}
use Rattle.table.specs.Step.{follow_sound, at_inside, at_below, step_start, step_at_lem}
use Rattle.table.proofs.Run.step.Goals as goal

pub bounds-block-next : goal.bounds-block-next
bounds-block-next c = let h = at_below _ c.requires.ready c.requires.self_value c.in-At.is in omega arith

pub move_to-requires-in-At : goal.move_to-requires-in-At
move_to-requires-in-At c = search (follow_sound, at_inside)

pub returns-in-Start : goal.returns-in-Start
returns-in-Start c = search step_start

pub returns-in-At : goal.returns-in-At
returns-in-At c = search step_at_lem
