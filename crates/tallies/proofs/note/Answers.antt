-- `tallies::note` meets its contract. Assumes nothing.
use Rattle.tallies.specs.Tallies.{room_fits, note_other, note_start, note_above}
use Rattle.tallies.proofs.note.Goals as goal

pub returns-then-not-is_start : goal.returns-then-not-is_start
returns-then-not-is_start c = search note_other

pub overflow_add-into : goal.overflow_add-into
overflow_add-into c = search room_fits

pub returns-then-name-elements : goal.returns-then-name-elements
returns-then-name-elements c = search note_start

pub returns-else-name-elements : goal.returns-else-name-elements
returns-else-name-elements c = search note_above
