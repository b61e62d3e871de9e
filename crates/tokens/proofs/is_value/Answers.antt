use Rattle.tokens.specs.Sorts.{value_word}
use Rattle.tokens.proofs.is_value.Goals as goal

pub returns : goal.returns
returns c = search value_word
