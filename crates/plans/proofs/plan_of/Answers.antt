-- `plans::plan_of` meets its contract. Assumes nothing.
use Rattle.plans.specs.Plan.{plan_inserted, plan_removed, plan_replaced, plan_set, plan_no_head, plan_dropped}
use Rattle.plans.proofs.plan_of.Goals as goal

pub returns-in-Insert : goal.returns-in-Insert
returns-in-Insert c = search plan_inserted

pub returns-in-Remove : goal.returns-in-Remove
returns-in-Remove c = search plan_removed

pub returns-in-Replace : goal.returns-in-Replace
returns-in-Replace c = search plan_replaced

pub returns-in-Set : goal.returns-in-Set
returns-in-Set c = search plan_set

pub returns-in-Some : goal.returns-in-Some
returns-in-Some c = search plan_dropped

pub returns-in_default : goal.returns-in_default
returns-in_default c = search plan_no_head
