use Rattle.paper_laws.specs.Words.{shift_bit}
use Rattle.sets.proofs.has.Goals as goal

pub returns : goal.returns
returns c = shift_bit c.args.set c.args.k
