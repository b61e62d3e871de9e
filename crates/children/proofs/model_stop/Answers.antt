-- `children::model_stop` meets its contract. The loop's invariant is `Running`; the measure is how many tokens are left. Assumes nothing.
use Rattle.children.specs.Model.{running_begin, running_out, running_end, running_text, running_lost, running_child, child_on, running_other}
use Rattle.children.proofs.model_stop.Goals as goal

pub loop-i-init : goal.loop-i-init
loop-i-init c = search running_begin

pub returns-then-not-goes_on : goal.returns-then-not-goes_on
returns-then-not-goes_on c = search running_lost

pub loop-i-smaller-then-is_start : goal.loop-i-smaller-then-is_start
loop-i-smaller-then-is_start c = search child_on

pub loop-i-preserved-then-is_start : goal.loop-i-preserved-then-is_start
loop-i-preserved-then-is_start c = search running_child

pub returns-then-is_end : goal.returns-then-is_end
returns-then-is_end c = search running_end

pub returns-then-is_text : goal.returns-then-is_text
returns-then-is_text c = search running_text

pub loop-i-preserved : goal.loop-i-preserved
loop-i-preserved c = search running_other

pub returns : goal.returns
returns c = search running_out
