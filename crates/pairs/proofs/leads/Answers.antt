-- `pairs::leads` meets its contract. Assumes nothing.
use native.Mathlib.Omega.{arith}
use Rattle.pairs.specs.Number.{old_run, new_run, stepped_small, leads_nowhere, leads_on}
use Rattle.pairs.proofs.leads.Goals as goal

pub step-requires : goal.step-requires
step-requires c = let (r, i) = old_run c.requires c.run_of.result c.run_of.ensures in record { ready = r; self_value = i }

pub number_of-was-requires : goal.number_of-was-requires
number_of-was-requires c = search stepped_small

pub step-requires-2 : goal.step-requires-2
step-requires-2 c = let (r, i) = new_run c.requires c.run_of-2.result c.run_of-2.ensures in record { ready = r; self_value = i }

pub number_of-is-requires : goal.number_of-is-requires
number_of-is-requires c = search stepped_small

pub returns-then-was-eq0 : goal.returns-then-was-eq0
returns-then-was-eq0 c = search leads_nowhere

pub overflow_mul-result : goal.overflow_mul-result
overflow_mul-result c =
    let g = c.requires in
    let was = stepped_small g.old_ready c.step.ensures in
    let is = stepped_small g.new_ready c.step-2.ensures in
    omega arith

pub overflow_add-result : goal.overflow_add-result
overflow_add-result c =
    let g = c.requires in
    let was = stepped_small g.old_ready c.step.ensures in
    let is = stepped_small g.new_ready c.step-2.ensures in
    omega arith

pub returns : goal.returns
returns c = search leads_on
