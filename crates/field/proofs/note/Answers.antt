-- `field::note` meets its contract. Assumes nothing.
use Rattle.field.specs.Field.{note_none, note_one}
use Rattle.field.proofs.note.Goals as goal

pub returns-then-not-is : goal.returns-then-not-is
returns-then-not-is c = search note_none

pub returns : goal.returns
returns c = search note_one
