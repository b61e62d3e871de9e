-- `dtd_brackets::look_back` meets its contract: `Backward` holds at i. Assumes nothing.
use native.Mathlib.Omega.{arith}
use Rattle.dtd_brackets.specs.Back.{begun, sum_small, at_start, at_enough, closed, opened, inner, plain}
use borrow.Author.Rules.{rules}
use Rattle.dtd_brackets.proofs.look_back.Goals as goal

pub loop-i-init : goal.loop-i-init
loop-i-init c = search (rules, begun)

pub returns-then-power-ge-ENOUGH : goal.returns-then-power-ge-ENOUGH
returns-then-power-ge-ENOUGH c = search (rules, at_enough)

pub loop-i-preserved-then-b-eq41 : goal.loop-i-preserved-then-b-eq41
loop-i-preserved-then-b-eq41 c = search (rules, closed)

pub loop-i-preserved-then-b-ne40 : goal.loop-i-preserved-then-b-ne40
loop-i-preserved-then-b-ne40 c = search (rules, plain)

pub loop-i-preserved-then-level-ne0 : goal.loop-i-preserved-then-level-ne0
loop-i-preserved-then-level-ne0 c = search (rules, inner)

pub overflow_mul-window : goal.overflow_mul-window
overflow_mul-window c = omega (arith, sum_small _ _ _ _ _ _ _ _ c.loop-i.invariant)

pub overflow_add-window : goal.overflow_add-window
overflow_add-window c = omega (arith, sum_small _ _ _ _ _ _ _ _ c.loop-i.invariant)

pub loop-i-preserved : goal.loop-i-preserved
loop-i-preserved c = search (rules, opened)

pub returns : goal.returns
returns c = search (rules, at_start)
