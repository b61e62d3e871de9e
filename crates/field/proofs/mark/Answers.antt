-- `field::mark` meets its contract. Assumes nothing.
use Rattle.field.specs.Field.{mark_word}
use Rattle.field.proofs.mark.Goals as goal

pub returns : goal.returns
returns c = search mark_word
