use Rattle.tokens.specs.Sorts.{text_word}
use Rattle.tokens.proofs.is_text.Goals as goal

pub returns : goal.returns
returns c = search text_word
