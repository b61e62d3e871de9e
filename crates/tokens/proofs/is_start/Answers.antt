use Rattle.tokens.specs.Sorts.{start_word}
use Rattle.tokens.proofs.is_start.Goals as goal

pub returns : goal.returns
returns c = search start_word
