use Rattle.splicing.specs.Splicing.{spliced}
use Rattle.splicing.proofs.splice_into.Goals as goal

pub returns : goal.returns
returns c = search spliced
