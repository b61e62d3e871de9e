-- `field::unmark` meets its contract. Assumes nothing.
use Rattle.field.specs.Field.{unmark_none, unmark_word}
use Rattle.field.proofs.unmark.Goals as goal

pub returns-then-not-is : goal.returns-then-not-is
returns-then-not-is c = search unmark_none

pub returns : goal.returns
returns c = search unmark_word
