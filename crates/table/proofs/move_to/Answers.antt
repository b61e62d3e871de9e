-- `move_to` meets its contract. Assumes nothing.
use Rattle.table.specs.Step.{move_there, move_nowhere}
use Rattle.table.proofs.move_to.Goals as goal

pub returns-in-Some : goal.returns-in-Some
returns-in-Some c = search move_there

pub returns-in-None : goal.returns-in-None
returns-in-None c = search move_nowhere
