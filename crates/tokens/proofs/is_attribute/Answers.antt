use Rattle.tokens.specs.Sorts.{attr_word}
use Rattle.tokens.proofs.is_attribute.Goals as goal

pub returns : goal.returns
returns c = search attr_word
