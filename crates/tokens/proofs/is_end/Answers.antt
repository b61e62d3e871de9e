use Rattle.tokens.specs.Sorts.{end_word}
use Rattle.tokens.proofs.is_end.Goals as goal

pub returns : goal.returns
returns c = search end_word
