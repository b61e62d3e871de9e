-- `pairs::is_losing` meets its contract. Assumes nothing.
use Rattle.pairs.specs.Number.{old_run, new_run, losing_is}
use Rattle.pairs.proofs.is_losing.Goals as goal

pub stops-requires : goal.stops-requires
stops-requires c = let (r, i) = old_run c.requires c.run_of.result c.run_of.ensures in record { ready = r; run_value = i }

pub stops-requires-2 : goal.stops-requires-2
stops-requires-2 c = let (r, i) = new_run c.requires c.run_of-2.result c.run_of-2.ensures in record { ready = r; run_value = i }

pub returns : goal.returns
returns c = search losing_is
