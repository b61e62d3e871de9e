-- `pairs::stops` meets its contract. Assumes nothing.
use Rattle.pairs.specs.Number.{stops_is}
use Rattle.pairs.proofs.stops.Goals as goal

pub returns : goal.returns
returns c = stops_is c.args.block.now _ c.goes_on.ensures c.may_end.ensures
