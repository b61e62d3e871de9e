use Rattle.paper_laws.specs.Words.{shift_one}
use Rattle.sets.proofs.one.Goals as goal

pub returns : goal.returns
returns c = shift_one 64 c.args.k c.requires
