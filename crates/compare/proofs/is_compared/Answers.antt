-- `compare::is_compared` meets its contract. Assumes nothing.
use Rattle.compare.specs.Call.{compared_is}
use Rattle.compare.proofs.is_compared.Goals as goal

pub returns : goal.returns
returns c = search compared_is
