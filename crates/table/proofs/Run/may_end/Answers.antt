-- `may_end` meets its contract. Assumes nothing.
use Rattle.table.specs.Step.{at_below, end_start, end_at}
use Rattle.table.proofs.Run.may_end.Goals as goal

pub has-requires : goal.has-requires
has-requires c = search at_below

pub returns-in-Start : goal.returns-in-Start
returns-in-Start c = search end_start

pub returns-in-At : goal.returns-in-At
returns-in-At c = search end_at
